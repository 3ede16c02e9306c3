-- The members of a line that names a grain and maybe a turn.
use Rattle.std.proofs.Common.{◌≡◌, ℕ, List, [], ◌∷◌, Option, Some, None, refl, sym, ap, ◌∙◌, subst}
use Rattle.json.specs.Token.{Token, begin_object, end_object, key, string}
use Rattle.json.specs.Json.{read_key}
use Rattle.line_parser.specs.inside.LineMembers.{name_text, HasLineMembers}
use Rattle.line_parser.specs.inside.ShortLine.{EndsWithTurn, short_count}
use Rattle.line_parser.specs.declared.line_members.Name.TheVariants.{Op, Grain, Turn}
use Rattle.line_parser.specs.declared.line_members.LineMembers.{LineMembers}
use Rattle.line_parser.proofs.ItemsRead.{MembersRead, members_next, members_stop}
use Rattle.line_parser.proofs.MembersTaken.{natural_taken}

-- behind the grain the turn is read, if there is one
pub turn_read : (all begun behind : List Token) (s : LineMembers) (l : List ℕ) (turn : Option ℕ) (count : ℕ) → all ≡ begin_object ∷ begun → MembersRead begun behind (record s { turn = None; count = 2 }) l → EndsWithTurn turn behind
    → count ≡ short_count turn → HasLineMembers all (record s { turn = turn; count = count }) l
turn_read all begun behind s l None count first m ends is =
    members_stop begun behind (record s { turn = None; count = count }) l all first (subst (λ n. MembersRead begun behind (record s { turn = None; count = n }) l) (sym is) m) (ap read_key ends)
turn_read all begun behind s l (Some n) count first m ends is =
    let old = record s { turn = None; count = 2 } in
    let new = record s { turn = Some n; count = count } in
    members_stop begun (end_object ∷ []) new l all first (members_next begun behind ends.0 (end_object ∷ []) old new l l Turn (name_text Turn) m (ap read_key ends.1) refl (natural_taken Turn n old new l ends.0 (end_object ∷ []) ends.2 refl refl is)) refl

-- the tokens up to the grain's text, one by one
pub five_first : (word grain : List ℕ) (all at_op at_word at_grain at_text behind : List Token) → all ≡ begin_object ∷ at_op → at_op ≡ key (name_text Op) ∷ at_word → at_word ≡ string word ∷ at_grain → at_grain ≡ key (name_text Grain) ∷ at_text
    → at_text ≡ string grain ∷ behind → all ≡ begin_object ∷ key (name_text Op) ∷ string word ∷ key (name_text Grain) ∷ string grain ∷ behind
five_first word grain all at_op at_word at_grain at_text behind a b c d e =
    a ∙ ap (λ ts. begin_object ∷ ts) (b ∙ ap (λ ts. key (name_text Op) ∷ ts) (c ∙ ap (λ ts. string word ∷ ts) (d ∙ ap (λ ts. key (name_text Grain) ∷ ts) e)))
