use Rattle.silo_model.proofs.Common.{◌++◌, ◌+◌, ◌∙◌, ◌≡◌, ◌≤◌, Entry, Err, StorageFailed, ap, flat_map, length, reply_to, same_Some, subst, sym}
use Rattle.std.proofs.Common.{vec_len, vec_capacity}
use Rattle.std.proofs.lemmas.List.{length-map}
use Rattle.silo_state.specs.Shown.{request_of, entry_of}
use Rattle.silo_state.specs.Reads.{refused}
use Rattle.silo_state.proofs.Loads.{refused_shown}
use Rattle.tenant_machine.proofs.closing.unload.Goals as goal

pub refuse_all-requires : goal.refuse_all-requires
refuse_all-requires g c =
    let waiting = c.in-Some.activation.mailbox.waiting in
    let room = c.requires (entry_of c.in-Some.activation) (sym c.in-Some.ensures.found) in
    subst (λ n. n + vec_len c.args.replies.now ≤ vec_capacity c.args.replies.now) (length-map waiting request_of ∙ ap length (sym c.into_waiting.ensures)) room

pub returns-clause-told : goal.returns-clause-told
returns-clause-told g c e is =
    let waiting = c.in-Some.activation.mailbox.waiting in
    let same : entry_of c.in-Some.activation ≡ e = same_Some (entry_of c.in-Some.activation) e (c.in-Some.ensures.found ∙ is) in
    c.refuse_all.ensures
    ∙ ap (λ told. c.args.replies.now.items ++ told)
    (ap (flat_map refused) c.into_waiting.ensures ∙ refused_shown waiting ∙ ap (λ (x : Entry). flat_map (λ q. reply_to q.sender (Err StorageFailed)) x.queue) same)
