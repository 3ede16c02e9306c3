-- The logic of notes keeps the laws.
use Rattle.std.proofs.Common.{◌≡◌, ℕ, Bool, true, false, List, Ok, arith}
use Rattle.std.specs.Prelude.{if◌then◌else◌}
use Rattle.request_codec.specs.Call.{asks}
use Rattle.request_codec.specs.Tree.{Tree, null}
use Rattle.grain_logic.specs.Laws.{IsLawful, FitsState, FitsMessage, ChangesNothing}
use Rattle.grain_logic.specs.LawsOfForms.{ObeysLaws, null_fits, if_holds, keeps_changes_nothing, keeps_obeys, becomes_obeys, asks_obeys}
use Rattle.grain_logic.specs.LawsOfForms.{fault_obeys}
use Rattle.grain_logic.specs.Logic.{Plan, writes_row}
use Rattle.grain_logic.specs.Shared.{keeps}
use Rattle.grain_logic.specs.declared.fault.MethodFault.TheVariants.{UnknownMethod}
use Rattle.example_notes.specs.Notes.{is_get, is_put, is_save, note_plan, notes}

-- what fits into a message fits into a state
argument_fits : (method : List ℕ) (argument : Tree) → FitsMessage (asks method argument) → FitsState argument
argument_fits method argument fits = record {
  formed = fits.argument_formed;
  depth_within = fits.depth_within;
  length_within = omega (arith, fits.length_within);
}

-- each of the four plans obeys the laws, and so does the choice between them
obeys : (method : List ℕ) (state argument : Tree) → ObeysLaws state (asks method argument) (note_plan method state argument)
obeys method state argument =
    let call = asks method argument in
    if_holds (ObeysLaws state call) (is_get method) _ _ (λ is. keeps_obeys state call (Ok state) (λ fits asked. fits))
    (λ is. if_holds (ObeysLaws state call) (is_put method) _ _
    (λ is. becomes_obeys state call argument null (λ fits asked. (argument_fits method argument asked, null_fits)))
    (λ is. if_holds (ObeysLaws state call) (is_save method) _ _ (λ is. asks_obeys state call writes_row)
    (λ is. fault_obeys state call UnknownMethod)))

-- `get` changes nothing
get_reads : (get : Bool) (state : Tree) (other : Plan) → get ≡ true → ChangesNothing state (if get then keeps state (Ok state) else other)
get_reads true state other is = keeps_changes_nothing state (Ok state)
get_reads false state other is = cc

pub notes_lawful : IsLawful notes
notes_lawful = record {
  readers_change_nothing = λ kind method state argument. get_reads (is_get method) state _;
  faults_change_nothing = λ kind method state argument. (obeys method state argument).faults_change_nothing;
  askers_leave_all = λ kind method state argument. (obeys method state argument).askers_leave_all;
  plans_keep_limits = λ kind method state argument. (obeys method state argument).keeps_limits;
  stays_in_range = λ kind method state argument. (obeys method state argument).stays_in_range;
  empty_fits = λ kind known. null_fits;
}
