use Rattle.std.proofs.Common.{◌≡◌, ◌∙◌, ◌++◌, ℕ, List, length, [], ◌∷◌, ap, sym, subst}
use Rattle.std.specs.Prelude.{string_bytes, decimal, flat_map}
use Rattle.mill_model.specs.Instance.{Problem}
use Rattle.instance_text.specs.Text.{IsInstanceText, order_line}
use Rattle.instance_text.proofs.Printed.{canonical_reads, line_ends}
use Rattle.instance_text.proofs.print.print_instance.Goals as goal

pub returns-clause-text : goal.returns-clause-text
returns-clause-text c =
    let problem : Problem = c.args.instance.now in
    let spaced : List ℕ = flat_map (λ size. 32 ∷ decimal size) problem.sizes in
    let size_count : List ℕ = decimal (length problem.sizes) in
    let order_count : List ℕ = decimal (length problem.orders) in
    let lines : List ℕ = flat_map order_line problem.orders in
    let first : string_bytes c.write.new.self ≡ string_bytes c.in_ok-text.text ++ size_count =
    rw (← c.sizes-sizes.ensures.is) c.in_ok-write.ensures.bytes in
    let sizes : string_bytes c.push_sizes.new.text ≡ string_bytes c.write.new.self ++ spaced =
    rw (← c.sizes-sizes.ensures.is) c.in_ok-push_sizes.ensures in
    let counts : string_bytes c.write-2.new.self ≡ string_bytes c.push_sizes.new.text
    ++ (10 ∷ decimal problem.stated ++ (10 ∷ order_count ++ 10 ∷ [])) =
    rw (← c.orders-orders.ensures.is, ← c.colours.ensures.is) c.in_ok-write-2.ensures.bytes in
    let orders : string_bytes c.push_orders.new.text ≡ string_bytes c.write-2.new.self ++ lines =
    rw (← c.orders-orders.ensures.is) c.in_ok-push_orders.ensures in
    let before : string_bytes c.push_sizes.new.text ≡ size_count ++ spaced =
    sizes ∙ ap (λ text. text ++ spaced)
    (first ∙ ap (λ text. text ++ size_count) c.in_ok-text.ensures.bytes) in
    let counted : string_bytes c.write-2.new.self ≡ (size_count ++ spaced)
    ++ (10 ∷ decimal problem.stated ++ (10 ∷ order_count ++ 10 ∷ [])) =
    counts ∙ ap (λ text. text ++ (10 ∷ decimal problem.stated
    ++ (10 ∷ order_count ++ 10 ∷ []))) before in
    ap (λ vec. vec.items) c.into_bytes.ensures.value ∙ orders
    ∙ ap (λ text. text ++ lines)
    (counted ∙ line_ends (size_count ++ spaced) (decimal problem.stated) order_count)

pub returns-clause-reads : goal.returns-clause-reads
returns-clause-reads c =
    let P : List ℕ → Type 0 = λ text. IsInstanceText text c.args.instance.now in
    subst P (sym (returns-clause-text c))
    (canonical_reads c.args.instance.now c.sizes-sizes.ensures.kept)
