-- Fields that repeat: sizes, and weights with colours.
use Rattle.std.proofs.Common.{◌≡◌, ℕ, zero, suc, ◌+◌, ◌-◌, ◌*◌, ◌<◌, List, [], ◌∷◌, ◌++◌, length}
use Rattle.std.proofs.Common.{replicate, refl, ap, sym, ◌∙◌, arith}
use Rattle.std.proofs.lemmas.List.{replicate-append-replicate}
use Rattle.std.proofs.lemmas.Grind.{flat_map-append}
use Rattle.mill_model.specs.declared.order.Order.{Order}
use Rattle.instance_text.specs.declared.field.Field.{Field}
use Rattle.instance_text.specs.declared.field.Field.TheVariants.{Size, Weight, Colour}
use Rattle.instance_text.specs.declared.reader.Reader.{Reader}
use Rattle.instance_text.specs.Fields.{order_fields}
use Rattle.instance_text.specs.Text.{numbers_of_orders}
use Rattle.instance_text.specs.Reading.{Took}
use Rattle.instance_text.proofs.FieldsInTurn.{right_count}

-- nothing was read yet
pub took_none : (a : Reader) → Took [] [] a a
took_none a =
    record {
      used = [];
      split = refl;
      right = tt;
      values_are = refl;
      place = refl;
      tokens_are = omega arith;
      same = refl;
    }

-- each field is a token
pub took_tokens : (fs : List Field) (ns : List ℕ) (a b : Reader) → Took fs ns a b →
    b.tokens ≡ a.tokens + length fs
took_tokens fs ns a b h = omega (arith, h.tokens_are, right_count fs h.used h.right)

pub sizes_more : (i : ℕ) → replicate i Size ++ Size ∷ [] ≡ replicate (i + 1) Size
sizes_more i = replicate-append-replicate i 1 Size

pub sizes_split : (n i : ℕ) → i < n →
    (replicate i Size ++ Size ∷ []) ++ replicate (n - (i + 1)) Size ≡ replicate n Size
sizes_split n i h =
    ap (λ fs. fs ++ replicate (n - (i + 1)) Size) (sizes_more i)
    ∙ replicate-append-replicate (i + 1) (n - (i + 1)) Size
    ∙ ap (λ k. replicate k Size) (omega arith)

pub order_fields-append : (m n : ℕ) → order_fields m ++ order_fields n ≡ order_fields (m + n)
unfolding order_fields
order_fields-append zero n = ap order_fields (omega arith)
order_fields-append (suc m) n =
    let e : suc (m + n) ≡ suc m + n = omega arith in
    ap (λ fs. Weight ∷ Colour ∷ fs) (order_fields-append m n) ∙ ap order_fields e

pub length-order_fields : (n : ℕ) → length (order_fields n) ≡ 2 * n
unfolding order_fields
length-order_fields zero = omega arith
length-order_fields (suc n) = ap (λ k. suc (suc k)) (length-order_fields n) ∙ omega arith

one_order : order_fields 1 ≡ Weight ∷ Colour ∷ []
unfolding order_fields
one_order = refl

pub orders_more : (i : ℕ) → order_fields i ++ Weight ∷ Colour ∷ [] ≡ order_fields (i + 1)
orders_more i = ap (λ fs. order_fields i ++ fs) (sym one_order) ∙ order_fields-append i 1

pub orders_split : (n i : ℕ) → i < n →
    (order_fields i ++ Weight ∷ Colour ∷ []) ++ order_fields (n - (i + 1)) ≡ order_fields n
orders_split n i h =
    ap (λ fs. fs ++ order_fields (n - (i + 1))) (orders_more i)
    ∙ order_fields-append (i + 1) (n - (i + 1)) ∙ ap order_fields (omega arith)

pub took_no_order : (a : Reader) → Took (order_fields 0) [] a a
unfolding order_fields
took_no_order a = took_none a

-- one more order
pub numbers_of_orders_push : (orders : List Order) (order : Order) →
    numbers_of_orders orders ++ order.weight ∷ order.colour ∷ []
    ≡ numbers_of_orders (orders ++ order ∷ [])
numbers_of_orders_push orders order =
    sym (flat_map-append (λ order. order.weight ∷ order.colour ∷ []) orders (order ∷ []))
