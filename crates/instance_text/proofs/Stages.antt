-- The parts of an instance text, one after another.
use Rattle.std.specs.Prelude.{Err}
use Rattle.std.proofs.Common.{◌≡◌, ℕ, suc, ◌+◌, ◌<◌, ◌≤◌, List, [], ◌∷◌, ◌++◌, length, get_or, drop}
use Rattle.std.proofs.Common.{replicate, refl, ap, sym, ◌∙◌, arith, append_assoc, length-append}
use Rattle.std.proofs.Math.Seq.{get_or-append_seam}
use Rattle.std.proofs.lemmas.List.{map-append, get_or_append_left, append-nil, length-replicate}
use Rattle.std.proofs.lemmas.List.Elements.{All-from_recursion}
use Rattle.mill_model.specs.declared.order.Order.{Order}
use Rattle.mill_model.specs.Instance.{IsSize, IsOrder}
use Rattle.line_text.specs.Numbers.{value}
use Rattle.instance_text.specs.declared.field.Field.{Field}
use Rattle.instance_text.specs.declared.field.Field.TheVariants.{SizeCount, Size, ColourCount}
use Rattle.instance_text.specs.declared.field.Field.TheVariants.{OrderCount}
use Rattle.instance_text.specs.declared.error.InstanceError.{InstanceError}
use Rattle.instance_text.specs.declared.error.InstanceError.TheVariants.{BadByte, Short, OutOfRange}
use Rattle.instance_text.specs.declared.error.InstanceError.TheVariants.{OutOfMemory}
use Rattle.instance_text.specs.declared.reader.Reader.{Reader}
use Rattle.instance_text.specs.Words.{Word, words, words_from, end_behind}
use Rattle.instance_text.specs.Fields.{fields, fields_of, judged, number_at, order_fields}
use Rattle.instance_text.specs.Text.{numbers_of, numbers_of_orders, IsRefused}
use Rattle.instance_text.specs.Answer.{HasCause}
use Rattle.instance_text.specs.Reading.{Starts, Took, Stops, Fails, Spells, ahead, values}
use Rattle.instance_text.proofs.FieldsInTurn.{took_on, fails_on, fails_front, fails_next}
use Rattle.instance_text.proofs.Ranges.{InRanges, right_digits, right_ranges, sizes_within}
use Rattle.instance_text.proofs.Ranges.{orders_within}

ahead_all : (text : List ℕ) (start : Reader) → Starts text start → ahead start ≡ words text
ahead_all text start h =
    ap (λ at. words_from at (drop at start.bytes.now)) h.at_start ∙ ap (words_from 0) h.bytes_are

-- a number that was read is that of its word
number_read : (text : List ℕ) (start next : Reader) (fs : List Field) (ns : List ℕ) (i : ℕ) →
    Starts text start → Took fs ns start next → i < length ns →
    number_at (words text) i ≡ get_or ns i 0
number_read text start next fs ns i h k within =
    ap (λ ws. get_or (values ws) i 0) (sym (ahead_all text start h) ∙ k.split)
    ∙ ap (λ ns. get_or ns i 0) (map-append (λ (w : Word). value w.bytes) k.used (ahead next)
    ∙ ap (λ ns. ns ++ values (ahead next)) k.values_are)
    ∙ get_or_append_left ns (values (ahead next)) 0 i within

-- what stops a reader at the start is wrong with the text
refused_all : (text : List ℕ) (start : Reader) (why : InstanceError) → Starts text start →
    Stops (fields_of (words text)) start why → IsRefused text why
refused_all text start why h k =
    record {
      front = k.front;
      others = k.others;
      split = sym (ahead_all text start h) ∙ k.split;
      met = k.met;
      what = k.what;
      more = k.more;
      announced = k.announced;
      right = k.right;
      wrong = ap (λ token. judged k.what token k.others) (omega (arith, h.no_tokens)) ∙ k.wrong;
    }

has_cause : (text : List ℕ) (start : Reader) (why : InstanceError) → Starts text start →
    Fails (fields_of (words text)) start why → HasCause text why
has_cause text start (BadByte at) h k = refused_all text start (BadByte at) h k
has_cause text start (Short token) h k = refused_all text start (Short token) h k
has_cause text start (OutOfRange what token) h k =
    refused_all text start (OutOfRange what token) h k
has_cause text start OutOfMemory h k = tt

-- the count of sizes is wrong
pub first_refused : (text : List ℕ) (start : Reader) (why : InstanceError) → Starts text start →
    judged SizeCount (suc start.tokens) (ahead start) ≡ Err why → HasCause text why
first_refused text start why h k =
    has_cause text start why h (fails_front (SizeCount ∷ []) _ start why
    (fails_next SizeCount start why k))

-- the fields up to the sizes, the stated colours and the count of orders
abbrev pub to_sizes : ℕ → List Field
to_sizes n = SizeCount ∷ replicate n Size

abbrev pub to_colours : ℕ → List Field
to_colours n = to_sizes n ++ ColourCount ∷ []

abbrev pub to_count : ℕ → List Field
to_count n = to_colours n ++ OrderCount ∷ []

colours_next : (n m : ℕ) →
    to_colours n ++ OrderCount ∷ order_fields m ≡ fields n m
colours_next n m = append_assoc (to_sizes n) (ColourCount ∷ []) (OrderCount ∷ order_fields m)

count_next : (n m : ℕ) → to_count n ++ order_fields m ≡ fields n m
count_next n m =
    append_assoc (to_colours n) (OrderCount ∷ []) (order_fields m) ∙ colours_next n m

-- the fields of a text whose count of sizes was read
sizes_known : (text : List ℕ) (start next : Reader) (fs : List Field) (n : ℕ) (ns : List ℕ) →
    Starts text start → Took fs (n ∷ ns) start next →
    fields n (number_at (words text) (n + 2)) ≡ fields_of (words text)
sizes_known text start next fs n ns h k =
    ap (λ k. fields k (number_at (words text) (k + 2)))
    (sym (number_read text start next fs (n ∷ ns) 0 h k (omega arith)))

-- a size is wrong
pub size_refused : (text : List ℕ) (start a : Reader) (n : ℕ) (why : InstanceError) →
    Starts text start → Took (SizeCount ∷ []) (n ∷ []) start a →
    Fails (replicate n Size) a why → HasCause text why
size_refused text start a n why h k f =
    has_cause text start why h (fails_on (SizeCount ∷ []) (replicate n Size) _ _ (n ∷ []) start a
    why
    (sizes_known text start a (SizeCount ∷ []) n [] h k) k f)

pub took_sizes : (start a b : Reader) (n : ℕ) (given : List ℕ) →
    Took (SizeCount ∷ []) (n ∷ []) start a → Took (replicate n Size) given a b →
    Took (to_sizes n) (n ∷ given) start b
took_sizes start a b n given h k =
    took_on (SizeCount ∷ []) (replicate n Size) (to_sizes n) (n ∷ []) given start a b refl h k

-- the stated count of colours is wrong
pub colours_refused : (text : List ℕ) (start b : Reader) (n : ℕ) (given : List ℕ)
    (why : InstanceError) → Starts text start → Took (to_sizes n) (n ∷ given) start b →
    judged ColourCount (suc b.tokens) (ahead b) ≡ Err why → HasCause text why
colours_refused text start b n given why h k f =
    has_cause text start why h (fails_on (to_sizes n) (ColourCount ∷ []) _ _ (n ∷ given) start b why
    (colours_next n _ ∙ sizes_known text start b (to_sizes n) n given h k) k
    (fails_next ColourCount b why f))

-- the count of orders is wrong
pub count_refused : (text : List ℕ) (start d : Reader) (n stated : ℕ) (given : List ℕ)
    (why : InstanceError) → Starts text start →
    Took (to_colours n) ((n ∷ given) ++ stated ∷ []) start d →
    judged OrderCount (suc d.tokens) (ahead d) ≡ Err why → HasCause text why
count_refused text start d n stated given why h k f =
    has_cause text start why h (fails_on (to_colours n) (OrderCount ∷ []) _ _
    ((n ∷ given) ++ stated ∷ []) start d why
    (count_next n _ ∙ sizes_known text start d (to_colours n) n (given ++ stated ∷ []) h k) k
    (fails_next OrderCount d why f))

-- the numbers up to the count of orders
abbrev pub counted : List ℕ → ℕ → ℕ → ℕ → List ℕ
counted given n stated m = ((n ∷ given) ++ stated ∷ []) ++ m ∷ []

pub counted-orders : (given : List ℕ) (stated : ℕ) (orders : List Order) →
    counted given (length given) stated (length orders) ++ numbers_of_orders orders
    ≡ numbers_of given stated orders
counted-orders given stated orders =
    append_assoc ((length given ∷ given) ++ stated ∷ []) (length orders ∷ [])
    (numbers_of_orders orders)
    ∙ append_assoc (length given ∷ given) (stated ∷ [])
    (length orders ∷ numbers_of_orders orders)

-- the last count stands behind the sizes and the stated count of colours
pub counted-last : (given : List ℕ) (n stated m : ℕ) → length given ≡ n →
    get_or (counted given n stated m) (n + 2) 0 ≡ m
counted-last given n stated m count =
    let size : length ((n ∷ given) ++ stated ∷ []) ≡ n + 2 =
    length-append (n ∷ given) (stated ∷ []) ∙ omega arith in
    ap (λ i. get_or (counted given n stated m) i 0) (sym size)
    ∙ get_or-append_seam ((n ∷ given) ++ stated ∷ []) m [] 0

pub length-counted : (given : List ℕ) (n stated m : ℕ) → length given ≡ n →
    length (counted given n stated m) ≡ n + 3
length-counted given n stated m count =
    length-append ((n ∷ given) ++ stated ∷ []) (m ∷ [])
    ∙ omega (arith, length-append (n ∷ given) (stated ∷ []))

-- the fields of a text whose counts were read
counts_known : (text : List ℕ) (start next : Reader) (given : List ℕ) (n stated m : ℕ) →
    Starts text start → Took (to_count n) (counted given n stated m) start next →
    length given ≡ n → fields n m ≡ fields_of (words text)
counts_known text start next given n stated m h k count =
    let last : number_at (words text) (n + 2) ≡ m =
    number_read text start next (to_count n) (counted given n stated m) (n + 2) h k
    (omega (arith, length-counted given n stated m count))
    ∙ counted-last given n stated m count in
    ap (fields n) (sym last)
    ∙ sizes_known text start next (to_count n) n ((given ++ stated ∷ []) ++ m ∷ []) h k

pub took_colours : (start b d : Reader) (n stated : ℕ) (given : List ℕ) →
    Took (to_sizes n) (n ∷ given) start b → Took (ColourCount ∷ []) (stated ∷ []) b d →
    Took (to_colours n) ((n ∷ given) ++ stated ∷ []) start d
took_colours start b d n stated given h k =
    took_on (to_sizes n) (ColourCount ∷ []) (to_colours n) (n ∷ given) (stated ∷ []) start b d refl
    h k

pub took_count : (start d e : Reader) (n stated m : ℕ) (given : List ℕ) →
    Took (to_colours n) ((n ∷ given) ++ stated ∷ []) start d →
    Took (OrderCount ∷ []) (m ∷ []) d e → Took (to_count n) (counted given n stated m) start e
took_count start d e n stated m given h k =
    took_on (to_colours n) (OrderCount ∷ []) (to_count n) ((n ∷ given) ++ stated ∷ []) (m ∷ [])
    start d e refl h k

-- how many tokens there are up to each part
pub length-to_sizes : (n : ℕ) → length (to_sizes n) ≡ n + 1
length-to_sizes n = ap suc (length-replicate n Size) ∙ omega arith

pub length-to_colours : (n : ℕ) → length (to_colours n) ≡ n + 2
length-to_colours n =
    length-append (to_sizes n) (ColourCount ∷ []) ∙ omega (arith, length-to_sizes n)

pub length-to_count : (n : ℕ) → length (to_count n) ≡ n + 3
length-to_count n =
    length-append (to_colours n) (OrderCount ∷ []) ∙ omega (arith, length-to_colours n)

pub sizes_in_range : (n : ℕ) (given : List ℕ) (a b : Reader) →
    Took (replicate n Size) given a b → InRanges (replicate n Size) given
sizes_in_range n given a b h = right_ranges (replicate n Size) h.used given h.right h.values_are

-- an order is wrong
pub order_refused : (text : List ℕ) (start e : Reader) (n stated m : ℕ) (given : List ℕ)
    (why : InstanceError) → Starts text start →
    Took (to_count n) (counted given n stated m) start e → InRanges (replicate n Size) given →
    Fails (order_fields m) e why → HasCause text why
order_refused text start e n stated m given why h k sized f =
    has_cause text start why h (fails_on (to_count n) (order_fields m) [] _
    (counted given n stated m) start e why
    (append-nil (to_count n ++ order_fields m) ∙ count_next n m
    ∙ counts_known text start e given n stated m h k (sizes_within n given sized).0) k f)

-- all numbers were read
pub spells : (text : List ℕ) (start e z : Reader) (n stated m : ℕ) (given : List ℕ)
    (orders : List Order) → Starts text start →
    Took (to_count n) (counted given n stated m) start e →
    Took (order_fields m) (numbers_of_orders orders) e z →
    InRanges (replicate n Size) given → 1 ≤ n → n ≤ 1024 → stated ≤ 4096 → m ≤ 1024 →
    Spells text given stated orders z.at
spells text start e z n stated m given orders h k rest sized low high few most =
    let sizes = sizes_within n given sized in
    let each = orders_within m orders
    (right_ranges (order_fields m) rest.used _ rest.right rest.values_are) in
    let all = took_on (to_count n) (order_fields m) (fields n m) (counted given n stated m)
    (numbers_of_orders orders) start e z (count_next n m) k rest in
    let counts : counted given n stated m ++ numbers_of_orders orders
    ≡ numbers_of given stated orders =
    ap (λ k. counted given k stated m ++ numbers_of_orders orders) (sym sizes.0)
    ∙ ap (λ k. counted given (length given) stated k ++ numbers_of_orders orders) (sym each.0)
    ∙ counted-orders given stated orders in
    record {
      tokens = all.used;
      others = ahead z;
      split = sym (ahead_all text start h) ∙ all.split;
      digits = right_digits (fields n m) all.used all.right;
      values_are = all.values_are ∙ counts;
      within = λ p p_low p_high. record {
        some_size = omega (arith, sizes.0);
        few_sizes = omega (arith, sizes.0);
        each_size = All-from_recursion IsSize given sizes.1;
        stated_limit = few;
        few_orders = omega (arith, each.0);
        each_order = All-from_recursion IsOrder orders each.1;
        p_low = p_low;
        p_high = p_high;
      };
      last = all.place ∙ ap (λ at. end_behind at all.used) h.at_start;
    }
