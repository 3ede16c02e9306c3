-- Whose lanes are: both tests of them answer alike.
use Rattle.silo_model.proofs.Common.{◌≡◌, client_cmp, eq_by_cmp, option_cmp, sym}
use Rattle.finite_maps.specs.Keys.{AreKeys}
use Rattle.finite_maps.proofs.Keys.{key_ties}
use Rattle.lane_model.specs.Lanes.{same_lane}
use Rattle.lane_model.proofs.Pass.{lanes_exact, lanes_total, same_lane_decides}

lanes : AreKeys same_lane (option_cmp client_cmp)
lanes = record { total = lanes_total; exact = lanes_exact; decides = same_lane_decides }

-- the test of lanes is that of their order
pub lane_tests : same_lane ≡ eq_by_cmp (option_cmp client_cmp)
lane_tests = λ i f g. sym (key_ties lanes f g) i
