-- Reading a record's words one after another.
use Rattle.std.proofs.Common.{ℕ, ◌+◌, ◌-◌, ◌^◌, ◌<◌, ◌≤◌, ◌≡◌, true, List, []}
use Rattle.std.proofs.Common.{◌∷◌, ◌++◌, length, All, ℤ, pos, ◌-ℤ◌, ◌≤ℤ◌, int_le, leb, ltb, eqb}
use Rattle.std.proofs.Common.{refl, sym, ap, ◌∙◌, arith, leb-true, eqb-true, le-leb, lt-ltb}
use Rattle.std.proofs.Common.{eq-eqb, get_or, cond}
use Rattle.std.proofs.lemmas.Bool.{and_parts, and_from}
use Rattle.std.proofs.lemmas.Fmt.{decimal_injective}
use Rattle.std.proofs.lemmas.Int.{ints}
use Rattle.std.proofs.lemmas.List.{append-nil}
use Rattle.std.proofs.lemmas.List.Elements.{All-head, All-tail}
use Rattle.std.specs.List.{list_all}
use Rattle.std.specs.Fmt.{decimal}
use Rattle.line_text.specs.Words.{BeginsWith}
use Rattle.line_text.specs.Numbers.{ordinals, signed_numbers, IsWithin}
use Rattle.mill_model.specs.declared.closing.Entry.{Entry}
use Rattle.mill_model.specs.declared.closing.Closing.{Closing}
use Rattle.mill_model.specs.declared.closing.Closing.TheVariants.{Split, Leaf, Priced, Dominated}
use Rattle.refute_log.specs.Fits.{path_fits, price_fits, closing_fits, fits}
use Rattle.refute_log.specs.Text.{letter_of, closing_words, record_words}
use Rattle.refute_log.proofs.RecordLines.{path-numbers}

-- numbers below n pass the test of a path
pub numbers-path : (n : ℕ) (path : List ℕ) → All (λ g. g < n) path
    → list_all (λ g. ltb g n) path ≡ true
numbers-path n [] h = refl
numbers-path n (g ∷ path) h =
    and_from (ltb g n) (list_all (λ g. ltb g n) path)
    (lt-ltb g n (All-head (λ g. g < n) g path h))
    (numbers-path n path (All-tail (λ g. g < n) g path h))

int_le-from : (x y : ℤ) → x ≤ℤ y → int_le x y ≡ true
int_le-from x y h = grind (arith, ints)

numbers-prices : (prices : List ℤ) → All (IsWithin 20000000000) prices
    → list_all price_fits prices ≡ true
numbers-prices [] h = refl
numbers-prices (y ∷ prices) h =
    let w : IsWithin 20000000000 y = All-head (IsWithin 20000000000) y prices h in
    and_from (price_fits y) (list_all price_fits prices)
    (and_from (int_le (pos 0 -ℤ pos 20000000000) y) (int_le y (pos 20000000000))
    (int_le-from (pos 0 -ℤ pos 20000000000) y w.0) (int_le-from y (pos 20000000000) w.1))
    (numbers-prices prices (All-tail (IsWithin 20000000000) y prices h))

pub priced-fits : (n depth : ℕ) (prices : List ℤ) → depth ≤ n → length prices ≡ n - depth
    → All (IsWithin 20000000000) prices → closing_fits n depth (Priced prices) ≡ true
priced-fits n depth prices l e h =
    and_from (eqb (depth + length prices) n) (list_all price_fits prices)
    (eq-eqb (depth + length prices) n (omega arith)) (numbers-prices prices h)

pub dominated-fits : (n depth : ℕ) (other : List ℕ) → depth ≤ n → length other ≡ depth
    → All (λ g. g < n) other → closing_fits n depth (Dominated other) ≡ true
dominated-fits n depth other l e h =
    and_from (path_fits n other) (eqb (length other) depth)
    (and_from (leb (length other) n) (list_all (λ g. ltb g n) other)
    (le-leb (length other) n (omega arith)) (numbers-path n other h))
    (eq-eqb (length other) depth e)

-- lists of one length in front are the same, and so is what follows them
pub same-front : {X : Type 0} (xs ys us vs : List X) → xs ++ us ≡ ys ++ vs
    → length xs ≡ length ys → (xs ≡ ys) × (us ≡ vs)
same-front [] [] us vs e l = (refl, e)
same-front [] (y ∷ ys) us vs e l = absurd (omega arith)
same-front (x ∷ xs) [] us vs e l = absurd (omega arith)
same-front (x ∷ xs) (y ∷ ys) us vs e l =
    let h : x ≡ y = cc in let t : xs ++ us ≡ ys ++ vs = cc in
    let r = same-front xs ys us vs t (omega arith) in
    let f : xs ≡ ys = r.0 in (cc, r.1)

pub length-ordinals : (path : List ℕ) → length (ordinals path) ≡ length path
length-ordinals [] = refl
length-ordinals (g ∷ path) = omega (arith, length-ordinals path)

length-prices : (prices : List ℤ) → length (signed_numbers prices) ≡ length prices
length-prices [] = refl
length-prices (y ∷ prices) = omega (arith, length-prices prices)

-- how many words stand behind a path of this length, by the letter
abbrev count_behind : ℕ → ℕ → List ℕ → ℕ
count_behind n depth letter =
    cond (eqb (get_or letter 0 0) 80) (n - depth) (cond (eqb (get_or letter 0 0) 68) depth 0)

count-closing : (n depth : ℕ) (closing : Closing) → closing_fits n depth closing ≡ true
    → length (closing_words closing) ≡ count_behind n depth (letter_of closing)
count-closing n depth Split h = refl
count-closing n depth Leaf h = refl
count-closing n depth (Priced prices) h =
    let p = and_parts (eqb (depth + length prices) n) (list_all price_fits prices) h in
    omega (arith, eqb-true (depth + length prices) n p.0, length-prices prices)
count-closing n depth (Dominated other) h =
    let p = and_parts (path_fits n other) (eqb (length other) depth) h in
    length-ordinals other ∙ eqb-true (length other) depth p.1

-- words that are a record's are its letter, the length of its path, and the rest of its words
pub record SpellsRecord (letter : List ℕ) (depth : ℕ) (rest : List (List ℕ)) (entry : Entry) : Type
    0 where
  pub kind : letter ≡ letter_of entry.closing
  pub long : depth ≡ length entry.path
  pub words : rest ≡ ordinals entry.path ++ closing_words entry.closing

pub spelled : (n : ℕ) (letter : List ℕ) (depth : ℕ) (rest : List (List ℕ)) (entry : Entry)
    → n < 2 ^ 16 → depth ≤ n → fits n entry ≡ true
    → letter ∷ decimal depth ∷ rest ≡ record_words entry → SpellsRecord letter depth rest entry
spelled n letter depth rest entry small l h e =
    let p =
    and_parts (path_fits n entry.path) (closing_fits n (length entry.path) entry.closing) h in
    let q = and_parts (leb (length entry.path) n) (list_all (λ g. ltb g n) entry.path) p.0 in
    let short : length entry.path ≤ n = leb-true (length entry.path) n q.0 in
    let k : letter ≡ letter_of entry.closing = cc in
    let d : decimal depth ≡ decimal (length entry.path) = cc in
    let w : rest ≡ ordinals entry.path ++ closing_words entry.closing = cc in
    record {
      kind = k;
      long = decimal_injective depth (length entry.path) (omega arith) (omega arith) d;
      words = w;
    }

module _ (n : ℕ) (letter : List ℕ) (depth : ℕ) (rest : List (List ℕ)) (entry : Entry)
    (small : n < 2 ^ 16) (deep : depth ≤ n) (fit : fits n entry ≡ true)
    (words : letter ∷ decimal depth ∷ rest ≡ record_words entry) where
  is : SpellsRecord letter depth rest entry
  is = spelled n letter depth rest entry small deep fit words

  parts : (path_fits n entry.path ≡ true)
      × (closing_fits n (length entry.path) entry.closing ≡ true)
  parts = and_parts (path_fits n entry.path) (closing_fits n (length entry.path) entry.closing) fit

  pub no_path : ((path : List ℕ) → length path ≡ depth → All (λ g. g < n) path
      → ¬ (BeginsWith rest (ordinals path))) → ⊥
  no_path none =
      let q = and_parts (leb (length entry.path) n) (list_all (λ g. ltb g n) entry.path) parts.0 in
      none entry.path (sym is.long) (path-numbers n entry.path q.1)
      (record { more = closing_words entry.closing; is = is.words })

  -- what stands behind the path
  behind : (path : List ℕ) (more : List (List ℕ)) → rest ≡ ordinals path ++ more
      → length path ≡ depth → more ≡ closing_words entry.closing
  behind path more e l =
      (same-front (ordinals path) (ordinals entry.path) more (closing_words entry.closing)
      (sym e ∙ is.words)
      (omega (arith, length-ordinals path, length-ordinals entry.path, is.long))).1

  pub no_closing : (path : List ℕ) (more : List (List ℕ)) → rest ≡ ordinals path ++ more
      → length path ≡ depth
      → ((closing : Closing) → closing_fits n depth closing ≡ true → letter ≡ letter_of closing
      → ¬ (BeginsWith more (closing_words closing))) → ⊥
  no_closing path more e l none =
      let f : closing_fits n depth entry.closing ≡ true = rw is.long parts.1 in
      none entry.closing f is.kind
      (record {
        more = [];
        is = behind path more e l ∙ sym
            (append-nil (closing_words entry.closing));
      })

  pub no_more : (path : List ℕ) (more last : List (List ℕ)) (closing : Closing)
      → rest ≡ ordinals path ++ more → length path ≡ depth
      → closing_fits n depth closing ≡ true → letter ≡ letter_of closing
      → more ≡ closing_words closing ++ last → last ≡ []
  no_more path more last closing e l f k m =
      let g : closing_fits n depth entry.closing ≡ true = rw is.long parts.1 in
      empty last (same_length closing entry.closing f g (sym k ∙ is.kind))
      (sym m ∙ behind path more e l)
    where
      same_length : (c d : Closing) → closing_fits n depth c ≡ true
          → closing_fits n depth d ≡ true → letter_of c ≡ letter_of d
          → length (closing_words c) ≡ length (closing_words d)
      same_length c d f g k =
          count-closing n depth c f ∙ ap (count_behind n depth) k ∙ sym (count-closing n depth d g)

      empty : (last : List (List ℕ))
          → length (closing_words closing) ≡ length (closing_words entry.closing)
          → closing_words closing ++ last ≡ closing_words entry.closing → last ≡ []
      empty last l e =
          (same-front (closing_words closing) (closing_words entry.closing) last []
          (e ∙ sym (append-nil (closing_words entry.closing))) l).1

-- a record that is read fits
pub record-fits : (n depth : ℕ) (path : List ℕ) (closing : Closing) → depth ≤ n
    → length path ≡ depth → All (λ g. g < n) path → closing_fits n depth closing ≡ true
    → fits n (record { path = path; closing = closing }) ≡ true
record-fits n depth path closing l e h f =
    and_from (path_fits n path) (closing_fits n (length path) closing)
    (and_from (leb (length path) n) (list_all (λ g. ltb g n) path)
    (le-leb (length path) n (omega arith)) (numbers-path n path h))
    (rw e f)
