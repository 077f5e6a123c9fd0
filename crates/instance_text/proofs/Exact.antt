-- What a text begins with, and for what it is refused, is one.
use Rattle.std.specs.Prelude.{Result, Ok, Err}
use Rattle.std.specs.List.{prefix_len}
use Rattle.std.proofs.Common.{◌≡◌, ℕ, suc, ◌+◌, ◌≤◌, cond, List, [], ◌∷◌, ◌++◌, length, get_or}
use Rattle.std.proofs.Common.{replicate, refl, ap, sym, ◌∙◌, arith, append_assoc, subst}
use Rattle.std.proofs.lemmas.List.{map-append, get_or_append_left}
use Rattle.std.proofs.lemmas.List.Elements.{recursion_from_All}
use Rattle.mill_model.specs.declared.order.Order.{Order}
use Rattle.mill_model.specs.Instance.{Problem, IsSize, IsOrder, IsWithin, AreSizesOf}
use Rattle.line_text.specs.Numbers.{is_digit, value}
use Rattle.instance_text.specs.declared.field.Field.{Field}
use Rattle.instance_text.specs.declared.field.Field.TheVariants.{SizeCount, Size, ColourCount}
use Rattle.instance_text.specs.declared.field.Field.TheVariants.{OrderCount}
use Rattle.instance_text.specs.declared.error.InstanceError.{InstanceError}
use Rattle.instance_text.specs.declared.error.InstanceError.TheVariants.{BadByte, Short, OutOfRange}
use Rattle.instance_text.specs.declared.error.InstanceError.TheVariants.{OutOfMemory}
use Rattle.instance_text.specs.Words.{Word, words, end_behind}
use Rattle.instance_text.specs.Fields.{in_range, IsRight, AreRight, fields, fields_of, judged}
use Rattle.instance_text.specs.Fields.{number_at, order_fields}
use Rattle.instance_text.specs.Text.{AreInstance, Begins, IsRefused, numbers_of, numbers_of_orders}
use Rattle.instance_text.specs.Answer.{Answers, HasCause}
use Rattle.instance_text.specs.Reading.{Spells, values}
use Rattle.mill_model.proofs.RisingLists.{same_sizes}
use Rattle.instance_text.proofs.Stages.{counted, counted-orders, counted-last, length-counted}
use Rattle.instance_text.proofs.Ranges.{InRanges, ranges_append, range_from, within_sizes}
use Rattle.instance_text.proofs.Ranges.{within_orders, right_from}

-- a right word isn't refused
judged_right : (what : Field) (token : ℕ) (w : Word) (ws : List Word) (why : InstanceError) →
    IsRight what w → judged what token (w ∷ ws) ≡ Err why → ⊥
judged_right what token w ws why right wrong =
    let v : ℕ = value w.bytes in
    let bad : Result ℕ InstanceError =
    Err (BadByte (w.at + prefix_len is_digit w.bytes)) in
    let out : Result ℕ InstanceError = Err (OutOfRange what token) in
    let read : judged what token (w ∷ ws) ≡ Ok v =
    ap (λ d. cond d (cond (in_range what v) (Ok v) out) bad) right.digits
    ∙ ap (λ r. cond r (Ok v) out) right.range in
    let both : Ok v ≡ Err why = sym read ∙ wrong in
    cc

-- the first wrong word is one, and one thing is wrong with it
wrong_once : (met met' more more' : List Field) (what what' : Field)
    (front front' others others' : List Word) (token : ℕ) (why why' : InstanceError) →
    met ++ what ∷ more ≡ met' ++ what' ∷ more' → front ++ others ≡ front' ++ others' →
    AreRight met front → AreRight met' front' →
    judged what (token + length front) others ≡ Err why →
    judged what' (token + length front') others' ≡ Err why' → why ≡ why'
wrong_once [] [] more more' what what' [] [] others others' token why why' e k r r' h h' =
    let same : what ≡ what' = cc in cc
wrong_once [] (m' ∷ met') more more' what what' [] (w ∷ front') others others' token why why'
    e k r r' h h' =
    let same : what ≡ m' = cc in
    absurd (judged_right m' (token + 0) w (front' ++ others') why r'.0
    (ap (λ f. judged f (token + 0) (w ∷ front' ++ others')) (sym same)
    ∙ ap (judged what (token + 0)) (sym k) ∙ h))
wrong_once (m ∷ met) [] more more' what what' (w ∷ front) [] others others' token why why'
    e k r r' h h' =
    let same : what' ≡ m = cc in
    absurd (judged_right m (token + 0) w (front ++ others) why' r.0
    (ap (λ f. judged f (token + 0) (w ∷ front ++ others)) (sym same)
    ∙ ap (judged what' (token + 0)) k ∙ h'))
wrong_once (m ∷ met) (m' ∷ met') more more' what what' (w ∷ front) (w' ∷ front') others others'
    token why why' e k r r' h h' =
    let fields_are : met ++ what ∷ more ≡ met' ++ what' ∷ more' = cc in
    let words_are : front ++ others ≡ front' ++ others' = cc in
    wrong_once met met' more more' what what' front front' others others' (suc token) why why'
    fields_are words_are r.1 r'.1
    (ap (λ token. judged what token others) (omega arith) ∙ h)
    (ap (λ token. judged what' token others') (omega arith) ∙ h')
wrong_once [] met' more more' what what' (w ∷ front) front' others others' token why why'
    e k r r' h h' = absurd r
wrong_once (m ∷ met) met' more more' what what' [] front' others others' token why why'
    e k r r' h h' = absurd r
wrong_once met [] more more' what what' front (w' ∷ front') others others' token why why'
    e k r r' h h' = absurd r'
wrong_once met (m' ∷ met') more more' what what' front [] others others' token why why'
    e k r r' h h' = absurd r'

pub refused_once : (text : List ℕ) (why why' : InstanceError) → IsRefused text why →
    IsRefused text why' → why ≡ why'
refused_once text why why' h k =
    wrong_once h.met k.met h.more k.more h.what k.what h.front k.front h.others k.others 1 why why'
    (sym h.announced ∙ k.announced) (sym h.split ∙ k.split) h.right k.right
    (ap (λ token. judged h.what token h.others) (omega arith) ∙ h.wrong)
    (ap (λ token. judged k.what token k.others) (omega arith) ∙ k.wrong)

-- where all words are right none is wrong
none_wrong : (met more : List Field) (what : Field) (tokens rest front others : List Word)
    (token : ℕ) (why : InstanceError) → AreRight (met ++ what ∷ more) tokens →
    tokens ++ rest ≡ front ++ others → AreRight met front →
    judged what token others ≡ Err why → ⊥
none_wrong [] more what [] rest [] others token why all split right wrong = all
none_wrong [] more what (v ∷ tokens) rest [] others token why all split right wrong =
    judged_right what token v (tokens ++ rest) why all.0 (ap (judged what token) split ∙ wrong)
none_wrong [] more what tokens rest (w ∷ front) others token why all split right wrong = right
none_wrong (m ∷ met) more what tokens rest [] others token why all split right wrong = right
none_wrong (m ∷ met) more what [] rest (w ∷ front) others token why all split right wrong = all
none_wrong (m ∷ met) more what (v ∷ tokens) rest (w ∷ front) others token why all split right
    wrong =
    let others_are : tokens ++ rest ≡ front ++ others = cc in
    none_wrong met more what tokens rest front others token why all.1 others_are right.1 wrong

-- the words of an instance are those that they announce, and right
record Announced (text : List ℕ) (tokens : List Word) : Type 0 where
  pub announced : AreRight (fields_of (words text)) tokens

announces : (text : List ℕ) (tokens others : List Word) (problem : Problem) →
    words text ≡ tokens ++ others → AreInstance tokens problem → Announced text tokens
announces text tokens others problem split h =
    let given : List ℕ = h.given in
    let stated : ℕ = problem.stated in
    let orders : List Order = problem.orders in
    let n : ℕ = length given in
    let m : ℕ = length orders in
    let counts : values tokens ≡ counted given n stated m ++ numbers_of_orders orders =
    h.values ∙ sym (counted-orders given stated orders) in
    let all : values (words text) ≡ counted given n stated m ++ (numbers_of_orders orders
    ++ values others) =
    ap values split ∙ map-append (λ (w : Word). value w.bytes) tokens others
    ∙ ap (λ ns. ns ++ values others) counts
    ∙ append_assoc (counted given n stated m) (numbers_of_orders orders) (values others) in
    let size : length (counted given n stated m) ≡ n + 3 =
    length-counted given n stated m refl in
    let first : number_at (words text) 0 ≡ n = ap (λ ns. get_or ns 0 0) all in
    let last : number_at (words text) (n + 2) ≡ m =
    ap (λ ns. get_or ns (n + 2) 0) all
    ∙ get_or_append_left (counted given n stated m) (numbers_of_orders orders ++ values others)
    0 (n + 2) (omega arith)
    ∙ counted-last given n stated m refl in
    let fields_are : fields n m ≡ fields_of (words text) =
    ap (fields n) (sym last)
    ∙ ap (λ k. fields k (number_at (words text) (k + 2))) (sym first) in
    let ranges : InRanges (fields n m) (numbers_of given stated orders) = (
      range_from SizeCount n h.within.some_size h.within.few_sizes,
      ranges_append (replicate n Size) (ColourCount ∷ OrderCount ∷ order_fields m) given
          (stated ∷ m ∷ numbers_of_orders orders)
          (within_sizes given (recursion_from_All IsSize given h.within.each_size)) (
            range_from ColourCount stated (omega arith) h.within.stated_limit,
            (
              range_from OrderCount m (omega arith) h.within.few_orders,
              within_orders orders (recursion_from_All IsOrder orders h.within.each_order),
            ),
          ),
    ) in
    let P : List Field → Type 0 = λ fs. AreRight fs tokens in
    record {
      announced = subst P fields_are (right_from (fields n m) tokens _ h.digits h.values
          ranges);
    }

-- what begins with an instance isn't refused
pub begins_right : (text : List ℕ) (problem : Problem) (end : ℕ) (why : InstanceError) →
    Begins text problem end → IsRefused text why → ⊥
begins_right text problem end why h k =
    let P : List Field → Type 0 = λ fs. AreRight fs h.tokens in
    none_wrong k.met k.more k.what h.tokens h.others k.front k.others _ why
    (subst P k.announced (announces text h.tokens h.others problem h.split h.spelled).announced)
    (sym h.split ∙ k.split) k.right k.wrong

-- so many right words are one front
right_once : (fs : List Field) (us vs more more' : List Word) → AreRight fs us → AreRight fs vs →
    us ++ more ≡ vs ++ more' → us ≡ vs
right_once [] [] [] more more' r s e = refl
right_once [] (u ∷ us) vs more more' r s e = absurd r
right_once [] us (v ∷ vs) more more' r s e = absurd s
right_once (f ∷ fs) [] vs more more' r s e = absurd r
right_once (f ∷ fs) us [] more more' r s e = absurd s
right_once (f ∷ fs) (u ∷ us) (v ∷ vs) more more' r s e =
    let first : u ≡ v = cc in
    let rest : us ++ more ≡ vs ++ more' = cc in
    ap (λ w. w ∷ us) first ∙ ap (λ ws. v ∷ ws) (right_once fs us vs more more' r.1 s.1 rest)

same_front : (xs ys us vs : List ℕ) → length xs ≡ length ys → xs ++ us ≡ ys ++ vs →
    (xs ≡ ys) × (us ≡ vs)
same_front [] [] us vs count e = (refl, e)
same_front [] (y ∷ ys) us vs count e = absurd (omega arith)
same_front (x ∷ xs) [] us vs count e = absurd (omega arith)
same_front (x ∷ xs) (y ∷ ys) us vs count e =
    let first : x ≡ y = cc in
    let others : xs ++ us ≡ ys ++ vs = cc in
    let rest = same_front xs ys us vs (omega arith) others in
    (ap (λ n. n ∷ xs) first ∙ ap (λ ns. y ∷ ns) rest.0, rest.1)

abbrev order : ℕ → ℕ → Order
order weight colour = record { weight = weight; colour = colour }

same_orders : (os ps : List Order) → numbers_of_orders os ≡ numbers_of_orders ps → os ≡ ps
same_orders [] [] e = refl
same_orders [] (p ∷ ps) e = absurd (cc)
same_orders (o ∷ os) [] e = absurd (cc)
same_orders (o ∷ os) (p ∷ ps) e =
    let weight : o.weight ≡ p.weight = cc in
    let colour : o.colour ≡ p.colour = cc in
    let others : numbers_of_orders os ≡ numbers_of_orders ps = cc in
    ap (λ w. order w o.colour ∷ os) weight ∙ ap (λ k. order p.weight k ∷ os) colour
    ∙ ap (λ os. p ∷ os) (same_orders os ps others)

-- the numbers of an instance are those of one
record SameNumbers (given given' : List ℕ) (stated stated' : ℕ) (orders orders' : List Order) :
    Type 0 where
  pub given_are : given ≡ given'
  pub stated_are : stated ≡ stated'
  pub orders_are : orders ≡ orders'

same_numbers : (given given' : List ℕ) (stated stated' : ℕ) (orders orders' : List Order) →
    numbers_of given stated orders ≡ numbers_of given' stated' orders' →
    SameNumbers given given' stated stated' orders orders'
same_numbers given given' stated stated' orders orders' e =
    let count : length given ≡ length given' = cc in
    let others : given ++ stated ∷ length orders ∷ numbers_of_orders orders
    ≡ given' ++ stated' ∷ length orders' ∷ numbers_of_orders orders' = cc in
    let parts = same_front given given' (stated ∷ length orders ∷ numbers_of_orders orders)
    (stated' ∷ length orders' ∷ numbers_of_orders orders') count others in
    let rest : stated ∷ length orders ∷ numbers_of_orders orders
    ≡ stated' ∷ length orders' ∷ numbers_of_orders orders' = parts.1 in
    let last : numbers_of_orders orders ≡ numbers_of_orders orders' = cc in
    record {
      given_are = parts.0;
      stated_are = cc;
      orders_are = same_orders orders orders' last;
    }

abbrev made : List ℕ → ℕ → List Order → ℕ → Problem
made sizes stated orders p =
    record { sizes = sizes; stated = stated; orders = orders; p = p }

-- a text begins with one instance, which has one end
pub begins_once : (text : List ℕ) (problem problem' : Problem) (end end' : ℕ) →
    Begins text problem end → Begins text problem' end' → problem.p ≡ problem'.p →
    (problem ≡ problem') × (end ≡ end')
begins_once text problem problem' end end' h k limit =
    let tokens : h.tokens ≡ k.tokens =
    right_once (fields_of (words text)) h.tokens k.tokens h.others k.others
    (announces text h.tokens h.others problem h.split h.spelled).announced
    (announces text k.tokens k.others problem' k.split k.spelled).announced
    (sym h.split ∙ k.split) in
    let same = same_numbers h.spelled.given k.spelled.given problem.stated problem'.stated
    problem.orders problem'.orders
    (sym h.spelled.values ∙ ap values tokens ∙ k.spelled.values) in
    let P : List ℕ → Type 0 = λ given. AreSizesOf given problem.sizes in
    let sizes : problem.sizes ≡ problem'.sizes =
    same_sizes k.spelled.given problem.sizes problem'.sizes
    (subst P same.given_are h.spelled.sizes) k.spelled.sizes in (
      ap (λ sizes. made sizes problem.stated problem.orders problem.p) sizes
          ∙ ap (λ stated. made problem'.sizes stated problem.orders problem.p) same.stated_are
          ∙ ap (λ orders. made problem'.sizes problem'.stated orders problem.p) same.orders_are
          ∙ ap (made problem'.sizes problem'.stated problem'.orders) limit,
      h.last ∙ ap (end_behind 0) tokens ∙ sym k.last,
    )

-- what was read is what the text begins with
pub begins_read : (text given : List ℕ) (stated : ℕ) (orders : List Order) (end : ℕ)
    (problem : Problem) → Spells text given stated orders end → 1 ≤ problem.p →
    problem.p ≤ 8 → AreSizesOf given problem.sizes → problem.stated ≡ stated →
    problem.orders ≡ orders → Begins text problem end
begins_read text given stated orders end problem h low high sizes stated_is orders_are =
    let P : ℕ → List Order → Type 0 = λ stated orders. IsWithin given stated orders problem.p in
    record {
      tokens = h.tokens;
      others = h.others;
      split = h.split;
      spelled = record {
        given = given;
        digits = h.digits;
        values =
            h.values_are ∙ ap (λ n. numbers_of given n orders) (sym stated_is)
            ∙ ap (numbers_of given problem.stated) (sym orders_are);
        within = subst (P problem.stated) (sym orders_are)
            (subst (λ n. P n orders) (sym stated_is) (h.within problem.p low high));
        sizes = sizes;
      };
      last = h.last;
    }

-- what a reader may answer
abbrev pub Reads : Result (Problem × ℕ) InstanceError → Result (Problem × ℕ) InstanceError → Type 0
Reads result expected = Answers result expected

-- an instance in front is the one that was read
pub accepts_read : (text : List ℕ) (read : Problem) (at : ℕ) → Begins text read at →
    (problem : Problem) (end : ℕ) → Begins text problem end → problem.p ≡ read.p →
    Reads (Ok (read, at)) (Ok (problem, end))
accepts_read text read at h problem end k limit =
    let same = begins_once text problem read end at k h limit in
    ap (λ problem. Ok (problem, end)) same.0 ∙ ap (λ end. Ok (read, end)) same.1

pub refuses_read : (text : List ℕ) (read : Problem) (at : ℕ) → Begins text read at →
    (why : InstanceError) → IsRefused text why → Reads (Ok (read, at)) (Err why)
refuses_read text read at h why k = absurd (begins_right text read at why h k)

-- no instance stands in front of a text that was refused
pub accepts_refused : (text : List ℕ) (why : InstanceError) → HasCause text why →
    (problem : Problem) (end : ℕ) → Begins text problem end →
    Reads (Err why) (Ok (problem, end))
accepts_refused text (BadByte at) h problem end k =
    absurd (begins_right text problem end (BadByte at) k h)
accepts_refused text (Short token) h problem end k =
    absurd (begins_right text problem end (Short token) k h)
accepts_refused text (OutOfRange what token) h problem end k =
    absurd (begins_right text problem end (OutOfRange what token) k h)
accepts_refused text OutOfMemory h problem end k = tt

pub refuses_refused : (text : List ℕ) (why : InstanceError) → HasCause text why →
    (other : InstanceError) → IsRefused text other → Reads (Err why) (Err other)
refuses_refused text (BadByte at) h other k =
    ap (λ why. Err why) (refused_once text other (BadByte at) k h)
refuses_refused text (Short token) h other k =
    ap (λ why. Err why) (refused_once text other (Short token) k h)
refuses_refused text (OutOfRange what token) h other k =
    ap (λ why. Err why) (refused_once text other (OutOfRange what token) k h)
refuses_refused text OutOfMemory h other k = tt
