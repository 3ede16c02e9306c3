-- Texts, grains and clients are keys of finite maps.
use Rattle.finite_maps.specs.Keys.{AreKeys}
use Rattle.grain_id.specs.Names.{client_cmp, client_eq, grain_cmp, grain_eq, same_text, text_cmp}
use Rattle.grain_id.proofs.Order.{client_cmp_exact, client_cmp_total, client_eq_decides, grain_cmp_exact, grain_cmp_total, grain_eq_decides, same_text_decides, text_cmp_exact, text_cmp_total}

pub texts : AreKeys same_text text_cmp
texts = record { total = text_cmp_total; exact = text_cmp_exact; decides = same_text_decides }

pub grains : AreKeys grain_eq grain_cmp
grains = record { total = grain_cmp_total; exact = grain_cmp_exact; decides = grain_eq_decides }

pub clients : AreKeys client_eq client_cmp
clients = record { total = client_cmp_total; exact = client_cmp_exact; decides = client_eq_decides }
