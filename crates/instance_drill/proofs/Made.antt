-- The instance that is made is within the limits, and is that of the definition.
use Rattle.std.proofs.Common.{ℕ, ◌≤◌, ◌≡◌, List, arith, refl}
use Rattle.mill_model.specs.Instance.{IsWithin, Problem}
use Rattle.mill_model.specs.declared.order.Order.{Order}
use Rattle.instance_drill.specs.Drilled.{drilled, orders_from, sizes}
use Rattle.instance_drill.proofs.Orders.{each-order, orders-count}
use Rattle.instance_drill.proofs.Sizes.{each-size}

pub made-within : (seed count p : ℕ) → count ≤ 1024 → 1 ≤ p → p ≤ 8 →
    IsWithin sizes 20 (orders_from seed count) p
made-within seed count p few low high = record {
  some_size = omega arith;
  few_sizes = omega arith;
  each_size = each-size;
  stated_limit = omega arith;
  few_orders = omega (arith, orders-count seed count);
  each_order = each-order seed count;
  p_low = low;
  p_high = high;
}

of-parts : List ℕ → ℕ → List Order → ℕ → Problem
of-parts sizes stated orders p =
    record { sizes = sizes; stated = stated; orders = orders; p = p }

same-parts : (a b : List ℕ) (s t : ℕ) (xs ys : List Order) (p q : ℕ) → a ≡ b → s ≡ t → xs ≡ ys →
    p ≡ q → of-parts a s xs p ≡ of-parts b t ys q
same-parts a b s t xs ys p q sizes stated orders limit = rw (sizes, stated, orders, limit) refl

pub is-drilled : (problem : Problem) (seed count p : ℕ) → problem.sizes ≡ sizes →
    problem.stated ≡ 20 → problem.orders ≡ orders_from seed count → problem.p ≡ p →
    problem ≡ drilled seed count p
unfolding of-parts
is-drilled problem seed count p = same-parts problem.sizes sizes problem.stated 20 problem.orders
    (orders_from seed count) problem.p p
