use Rattle.request_codec.proofs.Migrated.{no_old_call_in, renewed_spells}
use Rattle.request_codec.proofs.migrate.renewed.Goals as goal

pub unreachable-requires : goal.unreachable-requires
unreachable-requires c = no_old_call_in c.args.bytes.now c.in_default.len_below c.requires

pub returns : goal.returns
returns c = rw (c.in_ok-extend_from_slice.ensures.items, c.in_ok-push.ensures.items, c.in_ok-renewed.ensures.items) (renewed_spells c.args.bytes.now c.requires)
