use Rattle.std.proofs.Common.{◌∷◌, None, Some, false, refl, sym, ap}
use Rattle.json.specs.Token.{key, string}
use Rattle.line_parser.specs.inside.LineMembers.{name_text}
use Rattle.line_parser.specs.inside.Step.{form_text}
use Rattle.line_parser.specs.declared.line_members.Name.TheVariants.{Op, Grain}
use Rattle.line_parser.specs.declared.line_members.LineMembers.{LineMembers}
use Rattle.line_parser.proofs.ItemsRead.{members_start, members_next}
use Rattle.line_parser.proofs.MembersTaken.{nothing_held, text_taken}
use Rattle.line_parser.proofs.ShortMembers.{turn_read}
use Rattle.line_parser.proofs.short_line.members_of_short.Goals as goal

pub returns-clause-members : goal.returns-clause-members
returns-clause-members c ts l is =
    let word = c.word_of.result in
    let grain = c.args.line.grain in
    let form = form_text c.args.line.form in
    let behind = is.behind in
    let at_grain = string grain.now ∷ behind in
    let at_op = string form ∷ key (name_text Grain) ∷ at_grain in
    let begun = key (name_text Op) ∷ at_op in
    let none : LineMembers = record { op = None; from = None; grain = None; method = None; id = None; turn = None; moment = None; failed = None; args = false; state = false; refusal = None; count = 0 } in
    let first : LineMembers = record none { op = Some word; count = 1 } in
    let second : LineMembers = record first { grain = Some grain; count = 2 } in
    let op = members_next begun begun at_op (key (name_text Grain) ∷ at_grain) none first l l Op (name_text Op) (members_start begun none l (nothing_held l)) refl refl
    (text_taken Op word.now none first l at_op (key (name_text Grain) ∷ at_grain) (ap (λ w. string w ∷ key (name_text Grain) ∷ at_grain) (sym c.word_of.ensures)) refl refl refl) in
    let both = members_next begun (key (name_text Grain) ∷ at_grain) at_grain behind first second l l Grain (name_text Grain) op refl refl
    (text_taken Grain grain.now first second l at_grain behind refl refl refl refl) in
    turn_read ts begun behind second l c.args.line.turn c.count_of_short.result is.begins both is.ends c.count_of_short.ensures
