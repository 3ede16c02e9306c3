use Rattle.std.proofs.Common.{◌≡◌, ◌≢◌, ◌∷◌, [], subst, sym, ◌∙◌}
use Rattle.std.specs.Bool.{MatchBool}
use Rattle.json.specs.Reads.{token_of}
use Rattle.json.specs.Lex.{tokens}
use Rattle.line_parser.proofs.NotNaturals.{ends_not_natural}
use Rattle.line_parser.proofs.Results.{if_ok_as}
use Rattle.line_parser.proofs.not_natural.ends_not_natural.Goals as goal

pub returns : goal.returns
returns c =
    let value = tokens c.args.value.now in
    let behind = c.next.new.self in
    let first : value ≡ token_of c.in_ok-token.token ∷ behind = sym c.new-reader.ensures ∙ c.in_ok-token.ensures in
    if_ok_as c.ends.result c.ends.ensures λ over ends so.
    let last = subst (λ b. MatchBool b (c.next_member.new.self ≡ []) (c.next_member.new.self ≢ [])) so ends in
    ends_not_natural value behind c.next_member.new.self (token_of c.in_ok-token.token) first (c.is_not_natural.ensures c.if-not-is_not_natural.false) (rw c.in-End.is at c.in_ok-next_member.ensures) last
