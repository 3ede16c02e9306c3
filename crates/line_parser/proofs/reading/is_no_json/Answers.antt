use Rattle.std.proofs.Common.{◌≡◌, None, subst}
use Rattle.json.specs.Json.{skip_value}
use Rattle.line_parser.proofs.NoObject.{no_json}
use Rattle.line_parser.proofs.reading.is_no_json.Goals as goal

pub returns-in-Err : goal.returns-in-Err
returns-in-Err c so = no_json c.args.text.now (subst (λ ts. skip_value 127 ts ≡ None) c.in_ok-reader.ensures.ok c.in-Err.ensures.value)
