use Rattle.std.proofs.Common.{◌≡◌, [], sym, ◌∙◌}
use Rattle.schedule_text.proofs.FirstToken.{tokens-blank, next-token}
use Rattle.schedule_text.proofs.tokens.Tokens.next_token.Goals as goal

pub returns-in_default-clause-none : goal.returns-in_default-clause-none
returns-in_default-clause-none c =
    let none : c.args.self.now ≡ [] =
    sym c.self.view_is ∙ tokens-blank c.self.inside.rest.now c.in_default.ensures.none in
    (none, none)

pub returns-clause-some : goal.returns-clause-some
returns-clause-some c =
    sym c.self.view_is
    ∙ next-token c.self.inside.rest.now c.in-Some.start c.token_length-count.result
    c.in-Some.ensures.some c.token_length-count.ensures.count
