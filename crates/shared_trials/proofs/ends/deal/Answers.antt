use Rattle.std.proofs.Common.{◌≡◌, List, [], ◌∷◌, ◌++◌, map, Some, refl, sym, ap, ◌∙◌}
use Rattle.std.proofs.lemmas.List.Elements.{All-pop}
use Rattle.shared_trials.specs.Trials.{IsUnlent}
use Rattle.shared_trials.proofs.ends.deal.Goals as goal

-- what f gives of a list's last element, as the first of what is behind the others
last-before-rest : {A B : Type 0} (f : A → B) (xs : List A) (x : A) (rest : List B) →
    map f xs ++ f x ∷ rest ≡ map f (xs ++ x ∷ []) ++ rest
last-before-rest f [] x rest = refl
last-before-rest f (y ∷ ys) x rest = ap (λ zs. f y ∷ zs) (last-before-rest f ys x rest)

-- the same for a list that begins another one
begins-without-last : {A B : Type 0} (f : A → B) (all xs : List A) (x : A) (rest whole : List B) →
    all ≡ xs ++ x ∷ [] → map f all ++ rest ≡ whole → map f xs ++ f x ∷ rest ≡ whole
begins-without-last f all xs x rest whole popped begins =
    last-before-rest f xs x rest ∙ (ap (λ zs. map f zs ++ rest) (sym popped) ∙ begins)

pub loop-own-preserved : goal.loop-own-preserved
loop-own-preserved g c =
    let owns = c.loop-own.owns.items in
    let others = c.pop.new.self.items in
    let own = c.in-Some.own in
    let popped = c.in-Some.ensures.items in
    let which = c.loop-own.invariant.which in
    let unlent = IsUnlent g.J.Numbering.ranked in
    record {
      which = (
        own.deque ∷ which.0,
        begins-without-last (λ own. own.deque) owns others own which.0 g.J.Numbering.deques popped
            which.1,
      );
      unlent = (All-pop unlent owns others (Some own) popped c.loop-own.invariant.unlent).0;
    }
