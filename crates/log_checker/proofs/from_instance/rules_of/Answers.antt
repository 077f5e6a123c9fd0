use Rattle.std.proofs.Common.{◌≡◌, ◌≤◌, ◌+◌, ◌∙◌, length, arith, ap, sym, All}
use Rattle.std.proofs.Common.{slice_index, subst}
use Rattle.mill_model.specs.Instance.{largest}
use Rattle.mill_model.specs.declared.charges.TheConstants.{MAX_CHARGE}
use Rattle.mill_model.proofs.Sizes.{largest-small}
use Rattle.log_checker.proofs.from_instance.rules_of.Goals as goal

pub charge_table-requires-clause-small : goal.charge_table-requires-clause-small
charge_table-requires-clause-small c =
    let l : largest c.args.instance.now.sizes ≤ 20000 =
    largest-small c.args.instance.now.sizes c.orders.ensures.kept.within.each_size in
    omega (arith, c.largest-largest.ensures.is)

pub invariant_of-result : goal.invariant_of-result
invariant_of-result c =
    let i = c.orders.ensures.kept.within in
    let l : largest c.args.instance.now.sizes ≤ 20000 =
    largest-small c.args.instance.now.sizes i.each_size in
    let n : length c.orders.result.now ≡ length c.args.instance.now.orders =
    ap length c.orders.ensures.is in
    record {
      setting =
          record {
            few = omega (arith, c.in_ok-ranked.ensures.count, i.few_orders);
            orders = c.in_ok-ranked.ensures.kept;
            reach =
                ap length c.in_ok-charges.ensures ∙ c.requires.reach
                ∙ ap (λ x. x + 1) (sym c.largest-largest.ensures.is);
            none = ap (λ xs. slice_index xs 0) c.in_ok-charges.ensures ∙ c.args.charges.now.free;
            small =
                subst (All (λ charge. charge ≤ MAX_CHARGE)) (sym c.in_ok-charges.ensures)
                c.args.charges.now.limit;
            size = omega (arith, c.largest-largest.ensures.is);
            colours = omega (arith, c.p.ensures.is, i.p_high);
            falls = c.in_ok-ranked.ensures.falls;
          };
      ends = rw c.deref.ensures.value at c.in_ok-last.ensures;
    }
