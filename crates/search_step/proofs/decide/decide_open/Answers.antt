use Rattle.std.proofs.Common.{rules, ◌≡◌, subst, sym, true, false, None, Some, Option}
use Rattle.mill_model.specs.Tree.{children}
use Rattle.order_symmetry.specs.Ranked.{orders_of}
use Rattle.nogood_store.specs.Entries.{found, path_of}
use Rattle.nogood_store.specs.declared.store.Entry.{Entry as Noted}
use Rattle.search_step.specs.Decided.{DecidesOpen}
use Rattle.search_step.specs.Moves.{starts}
use Rattle.search_step.specs.Steps.{task_at}
use Rattle.search_step.specs.declared.parts.Verdict.TheVariants.{Open}
use Rattle.search_step.proofs.Deciding.{open-noted, open-plain}
use Rattle.search_step.proofs.decide.decide_open.Goals as goal

pub returns : goal.returns
returns c =
    let node = c.args.node.now in
    let charges = c.args.charges.now in
    let store = c.args.store.now in
    let inside : c.in_ok-list.list.items
    ≡ children node.ranked.mill (orders_of node.ranked) node.path =
    c.in_ok-list.ensures.is in
    elim c.if-starts_class.branch [
      | goal.then-starts_class+in_ok-key+in_default+in_ok-copy-2 w ↦ (
          let start : starts (task_at node.ranked charges) node.path ≡ true = search rules in
          let none : None ≡ path_of (found store.entries w.in_ok-key.key w.dead_loss-dead.result) =
          search rules in
          let note : c.if-starts_class.note ≡ Some (record {
            key = w.in_ok-key.key;
            dead = w.dead_loss-dead.result;
            path = node.path;
          }) = search rules in
          subst (λ (n : Option Noted). DecidesOpen node.ranked charges store node.path
          (Open c.in_ok-list.list.items n)) (sym note)
          (open-noted node.ranked charges node.path store start w.in_ok-key.key
          w.dead_loss-dead.result w.in_ok-key.ensures w.dead_loss-dead.ensures
          c.in_ok-list.list.items inside none))
      | goal.else-starts_class w ↦ (
          let start : starts (task_at node.ranked charges) node.path ≡ false = search rules in
          let note : c.if-starts_class.note ≡ None = search rules in
          subst (λ (n : Option Noted). DecidesOpen node.ranked charges store node.path
          (Open c.in_ok-list.list.items n)) (sym note)
          (open-plain node.ranked charges node.path store c.in_ok-list.list.items start inside))
    ]
