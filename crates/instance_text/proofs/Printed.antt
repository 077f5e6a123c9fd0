-- What is printed, read again.
use Rattle.std.specs.Prelude.{flat_map, decimal, IsTrue, ◌^◌}
use Rattle.std.specs.List.{list_all, AllByRecursion}
use Rattle.std.proofs.Common.{◌≡◌, ℕ, suc, ◌+◌, ◌<◌, Bool, true, false, cond, List, []}
use Rattle.std.proofs.Common.{◌∷◌, ◌++◌, length, drop, refl, ap, sym, ◌∙◌, arith}
use Rattle.std.proofs.Common.{append_assoc, length-append, subst}
use Rattle.std.proofs.lemmas.Bool.{and_from}
use Rattle.std.proofs.lemmas.List.{map-append, append-nil}
use Rattle.std.proofs.lemmas.List.Folds.{list_all-append}
use Rattle.std.proofs.lemmas.List.Elements.{recursion_from_All, All-from_recursion}
use Rattle.std.proofs.lemmas.Fmt.{decimal_nonempty}
use Rattle.mill_model.specs.declared.order.Order.{Order}
use Rattle.mill_model.specs.Instance.{Problem, IsInstance, IsSize, IsOrder}
use Rattle.line_text.specs.Lines.{is_white}
use Rattle.line_text.specs.Numbers.{is_digit, value}
use Rattle.line_text.proofs.LeadingDigits.{digits-decimal, value-decimal}
use Rattle.instance_text.specs.Words.{is_cut, Word, word, with_byte}
use Rattle.instance_text.specs.Words.{words_from, words, end_behind, IsBlankFrom}
use Rattle.instance_text.specs.Text.{IsInstanceText, canonical_text, line, order_line}
use Rattle.instance_text.specs.Text.{numbers_of_orders}
use Rattle.instance_text.specs.Reading.{values}
use Rattle.instance_text.proofs.Ranges.{are_digits}
use Rattle.instance_text.proofs.Runs.{run_front}
use Rattle.instance_text.proofs.Stages.{counted, counted-orders}

-- the words of a text, before a rest, are of digits and stand for these numbers
pub record Shown (at : ℕ) (text rest : List ℕ) (numbers : List ℕ) : Type 0 where
  pub shown : List Word
  pub split : words_from at (text ++ rest) ≡ shown ++ words_from (at + length text) rest
  pub digits : are_digits shown ≡ true
  pub values_are : values shown ≡ numbers

-- the same before each rest that ends the last word, and before every rest
abbrev Shows : List ℕ → List ℕ → Type 0
Shows text numbers = (at : ℕ) (rest : List ℕ) → is_cut rest ≡ true → Shown at text rest numbers

abbrev ShowsLines : List ℕ → List ℕ → Type 0
ShowsLines text numbers = (at : ℕ) (rest : List ℕ) → Shown at text rest numbers

-- one text after another
shown_append : (at : ℕ) (t u rest : List ℕ) (ns ms : List ℕ) → Shown at t (u ++ rest) ns →
    Shown (at + length t) u rest ms → Shown at (t ++ u) rest (ns ++ ms)
shown_append at t u rest ns ms h k =
    let place : (at + length t) + length u ≡ at + length (t ++ u) =
    omega (arith, length-append t u) in
    record {
      shown = h.shown ++ k.shown;
      split =
          ap (words_from at) (append_assoc t u rest) ∙ h.split
          ∙ ap (λ ws. h.shown ++ ws) (k.split ∙ ap (λ i. k.shown ++ words_from i rest) place)
          ∙ sym (append_assoc h.shown k.shown (words_from (at + length (t ++ u)) rest));
      digits =
          list_all-append (λ (w : Word). list_all is_digit w.bytes) h.shown k.shown
          ∙ and_from (are_digits h.shown) (are_digits k.shown) h.digits k.digits;
      values_are =
          map-append (λ (w : Word). value w.bytes) h.shown k.shown
          ∙ ap (λ ns. ns ++ values k.shown) h.values_are ∙ ap (λ ms. ns ++ ms) k.values_are;
    }

-- a number
shows_number : (n : ℕ) → n < 2 ^ 64 → Shows (decimal n) (n ∷ [])
shows_number n small at rest cut =
    let digits : list_all is_digit (decimal n) ≡ true = digits-decimal n small in
    record {
      shown = word at (decimal n) ∷ [];
      split = run_front at (decimal n) rest (decimal_nonempty n small) digits cut;
      digits = and_from (list_all is_digit (decimal n)) true digits refl;
      values_are = ap (λ k. k ∷ []) (value-decimal n small);
    }

-- white space
shows_space : (b : ℕ) → is_white b ≡ true → ShowsLines (b ∷ []) []
shows_space b space at rest =
    let e : suc at ≡ at + 1 = omega arith in
    record {
      shown = [];
      split =
          ap (λ c. cond c (words_from (suc at) rest) (with_byte at b (is_cut rest)
          (words_from (suc at) rest))) space
          ∙ ap (λ i. words_from i rest) e;
      digits = refl;
      values_are = refl;
    }

-- white space, then a number
shows_spaced : (n : ℕ) → n < 2 ^ 64 → Shows (32 ∷ decimal n) (n ∷ [])
shows_spaced n small at rest cut =
    shown_append at (32 ∷ []) (decimal n) rest [] (n ∷ [])
    (shows_space 32 refl at (decimal n ++ rest)) (shows_number n small (at + 1) rest cut)

-- a line
shows_line : (text ns : List ℕ) → Shows text ns → ShowsLines (line text) ns
shows_line text ns h at rest =
    let P = shown_append at text (10 ∷ []) rest ns [] (h at (10 ∷ rest) refl)
    (shows_space 10 refl (at + length text) rest) in
    record {
      shown = P.shown;
      split = P.split;
      digits = P.digits;
      values_are = P.values_are ∙ append-nil ns;
    }

-- sizes behind spaces
abbrev spaced : List ℕ → List ℕ
spaced sizes = flat_map (λ size. 32 ∷ decimal size) sizes

cut_spaced : (sizes rest : List ℕ) → is_cut rest ≡ true → is_cut (spaced sizes ++ rest) ≡ true
cut_spaced [] rest cut = cut
cut_spaced (n ∷ ns) rest cut = refl

shows_sizes : (sizes : List ℕ) → AllByRecursion IsSize sizes → Shows (spaced sizes) sizes
shows_sizes [] h at rest cut =
    record {
      shown = [];
      split = ap (λ i. words_from i rest) (omega arith);
      digits = refl;
      values_are = refl;
    }
shows_sizes (n ∷ ns) h at rest cut =
    let small : n < 2 ^ 64 = omega (arith, h.0.1) in
    shown_append at (32 ∷ decimal n) (spaced ns) rest (n ∷ []) ns
    (shows_spaced n small at (spaced ns ++ rest) (cut_spaced ns rest cut))
    (shows_sizes ns h.1 (at + length (32 ∷ decimal n)) rest cut)

-- lines of orders
shows_order : (order : Order) → IsOrder order →
    ShowsLines (order_line order) (order.weight ∷ order.colour ∷ [])
shows_order order h =
    let weight : order.weight < 2 ^ 64 = omega (arith, h.0.1) in
    let colour : order.colour < 2 ^ 64 = omega (arith, h.1.1) in
    shows_line (decimal order.weight ++ 32 ∷ decimal order.colour)
    (order.weight ∷ order.colour ∷ [])
    (λ at rest cut. shown_append at (decimal order.weight) (32 ∷ decimal order.colour) rest
    (order.weight ∷ []) (order.colour ∷ [])
    (shows_number order.weight weight at (32 ∷ decimal order.colour ++ rest) refl)
    (shows_spaced order.colour colour (at + length (decimal order.weight)) rest cut))

shows_orders : (orders : List Order) → AllByRecursion IsOrder orders →
    ShowsLines (flat_map order_line orders) (numbers_of_orders orders)
shows_orders [] h at rest =
    record {
      shown = [];
      split = ap (λ i. words_from i rest) (omega arith);
      digits = refl;
      values_are = refl;
    }
shows_orders (order ∷ orders) h at rest =
    shown_append at (order_line order) (flat_map order_line orders) rest
    (order.weight ∷ order.colour ∷ []) (numbers_of_orders orders)
    (shows_order order h.0 at (flat_map order_line orders ++ rest))
    (shows_orders orders h.1 (at + length (order_line order)) rest)

-- only white space stands behind the last word
record EndsBlank (at : ℕ) (text : List ℕ) : Type 0 where
  pub length_is : ℕ
  pub ends : end_behind at (words_from at text) ≡ at + length_is
  pub blank : AllByRecursion (λ b. IsTrue (is_white b)) (drop length_is text)

-- a text with no word is blank
blank_where : (at : ℕ) (text : List ℕ) (h : EndsBlank at text) → words_from at text ≡ [] →
    AllByRecursion (λ b. IsTrue (is_white b)) text
blank_where at text h none =
    let zero_is : h.length_is ≡ 0 = omega (arith, h.ends, ap (end_behind at) none) in
    let P : ℕ → Type 0 = λ n. AllByRecursion (λ b. IsTrue (is_white b)) (drop n text) in
    subst P zero_is h.blank

-- the first word begins where no white space does
first_place : (at : ℕ) (text : List ℕ) (w : Word) (ws : List Word) → is_cut text ≡ false →
    words_from at text ≡ w ∷ ws → w.at ≡ at
first_place at [] w ws cut e = absurd (let no : true ≡ false = cut in cc)
first_place at (b ∷ text) w ws solid e =
    by_case (is_cut text) (words_from (suc at) text)
    (ap (λ c. cond c (words_from (suc at) text) (with_byte at b (is_cut text)
    (words_from (suc at) text))) (sym solid) ∙ e)
  where
    by_case : (cut : Bool) (vs : List Word) → with_byte at b cut vs ≡ w ∷ ws → w.at ≡ at
    by_case cut [] e = let first : word at (b ∷ []) ≡ w = cc in ap (λ w. w.at) (sym first)
    by_case true (v ∷ vs) e =
        let first : word at (b ∷ []) ≡ w = cc in ap (λ w. w.at) (sym first)
    by_case false (v ∷ vs) e =
        let first : word at (b ∷ v.bytes) ≡ w = cc in ap (λ w. w.at) (sym first)

-- one more byte in front, which is white space (s) or not, before a text where a word goes on or
-- not
ends_step : (at b : ℕ) (text : List ℕ) (s cut : Bool) (vs : List Word) → EndsBlank (suc at) text →
    words_from (suc at) text ≡ vs → is_white b ≡ s → is_cut text ≡ cut →
    words_from at (b ∷ text) ≡ cond s vs (with_byte at b cut vs) → EndsBlank at (b ∷ text)
ends_step at b text true cut [] h rest space over whole =
    record {
      length_is = 0;
      ends = ap (end_behind at) whole ∙ omega arith;
      blank = (space, blank_where (suc at) text h rest);
    }
ends_step at b text true cut (v ∷ vs) h rest space over whole =
    record {
      length_is = suc h.length_is;
      ends =
          ap (end_behind at) whole ∙ sym (ap (end_behind (suc at)) rest) ∙ h.ends ∙ omega arith;
      blank = h.blank;
    }
ends_step at b text false cut [] h rest space over whole =
    record {
      length_is = 1;
      ends = ap (end_behind at) whole;
      blank = blank_where (suc at) text h rest;
    }
ends_step at b text false true (v ∷ vs) h rest space over whole =
    record {
      length_is = suc h.length_is;
      ends =
          ap (end_behind at) whole ∙ sym (ap (end_behind (suc at)) rest) ∙ h.ends ∙ omega arith;
      blank = h.blank;
    }
ends_step at b text false false (v ∷ vs) h rest space over whole =
    let place : v.at ≡ suc at = first_place (suc at) text v vs over rest in
    let same : at + length (b ∷ v.bytes) ≡ v.at + length v.bytes = omega arith in
    record {
      length_is = suc h.length_is;
      ends =
          ap (end_behind at) whole ∙ ap (λ i. end_behind i vs) same
          ∙ sym (ap (end_behind (suc at)) rest) ∙ h.ends ∙ omega arith;
      blank = h.blank;
    }

ends_blank : (at : ℕ) (text : List ℕ) → EndsBlank at text
ends_blank at [] = record { length_is = 0; ends = omega arith; blank = tt }
ends_blank at (b ∷ text) =
    ends_step at b text (is_white b) (is_cut text) (words_from (suc at) text)
    (ends_blank (suc at) text) refl refl refl refl

-- a number on a line
number_line : (n : ℕ) → n < 2 ^ 64 → ShowsLines (line (decimal n)) (n ∷ [])
number_line n small = shows_line (decimal n) (n ∷ []) (shows_number n small)

-- a count of numbers, and these behind spaces, on a line
sizes_line : (sizes : List ℕ) → length sizes < 2 ^ 64 → AllByRecursion IsSize sizes →
    ShowsLines (line (decimal (length sizes) ++ spaced sizes)) (length sizes ∷ sizes)
sizes_line sizes small each =
    shows_line (decimal (length sizes) ++ spaced sizes) (length sizes ∷ sizes) (λ at rest cut.
    shown_append at (decimal (length sizes)) (spaced sizes) rest (length sizes ∷ []) sizes
    (shows_number (length sizes) small at (spaced sizes ++ rest)
    (cut_spaced sizes rest cut))
    (shows_sizes sizes each (at + length (decimal (length sizes))) rest cut))

lines_append : (t u ns ms : List ℕ) → ShowsLines t ns → ShowsLines u ms →
    ShowsLines (t ++ u) (ns ++ ms)
lines_append t u ns ms h k at rest =
    shown_append at t u rest ns ms (h at (u ++ rest)) (k (at + length t) rest)

canonical_lines : (problem : Problem) → IsInstance problem →
    ShowsLines (canonical_text problem)
    (counted problem.sizes (length problem.sizes) problem.stated (length problem.orders)
    ++ numbers_of_orders problem.orders)
canonical_lines problem h =
    let sizes : List ℕ = problem.sizes in
    let orders : List Order = problem.orders in
    let first : List ℕ = line (decimal (length sizes) ++ spaced sizes) in
    let second : List ℕ = line (decimal problem.stated) in
    let third : List ℕ = line (decimal (length orders)) in
    let numbers : List ℕ = (length sizes ∷ sizes) ++ problem.stated ∷ [] in
    lines_append (first ++ second ++ third) (flat_map order_line orders)
    (numbers ++ length orders ∷ []) (numbers_of_orders orders)
    (lines_append (first ++ second) third numbers (length orders ∷ [])
    (lines_append first second (length sizes ∷ sizes) (problem.stated ∷ [])
    (sizes_line sizes (omega (arith, h.within.few_sizes))
    (recursion_from_All IsSize sizes h.within.each_size))
    (number_line problem.stated (omega (arith, h.within.stated_limit))))
    (number_line (length orders) (omega (arith, h.within.few_orders))))
    (shows_orders orders (recursion_from_All IsOrder orders h.within.each_order))

-- the canonical text is the instance's
pub canonical_reads : (problem : Problem) → IsInstance problem →
    IsInstanceText (canonical_text problem) problem
canonical_reads problem h =
    let text : List ℕ = canonical_text problem in
    let all = canonical_lines problem h 0 [] in
    let end = ends_blank 0 text in
    let split : words text ≡ all.shown =
    ap (words_from 0) (sym (append-nil text)) ∙ all.split ∙ append-nil all.shown in
    let blank : IsBlankFrom text end.length_is =
    All-from_recursion (λ b. IsTrue (is_white b)) (drop end.length_is text) end.blank in
    let last : end.length_is ≡ end_behind 0 all.shown =
    omega (arith, sym end.ends ∙ ap (end_behind 0) split) in
    record {
      end = end.length_is;
      begins = record {
        tokens = all.shown;
        others = [];
        split = split ∙ sym (append-nil all.shown);
        spelled = record {
          given = problem.sizes;
          digits = all.digits;
          values =
              all.values_are ∙ counted-orders problem.sizes problem.stated problem.orders;
          within = h.within;
          sizes = record { rise = h.rise; kept = λ n k. k; only = λ n k. k };
        };
        last = last;
      };
      blank = blank;
    }

-- line ends, as they are written
pub line_ends : (sizes stated count : List ℕ) →
    sizes ++ (10 ∷ stated ++ (10 ∷ count ++ 10 ∷ [])) ≡ line sizes ++ line stated ++ line count
line_ends sizes stated count = simp append_assoc
