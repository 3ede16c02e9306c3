use Rattle.std.proofs.Common.{◌∙◌, [], ◌∷◌, refl, sym, subst}
use Rattle.log_host.specs.Acts.{synced, told, wrote}
use Rattle.log_host.specs.Lasting.{SettlesFrom}
use Rattle.std.proofs.KnownBytes.{Keeps-refl}
use Rattle.log_host.proofs.Known.{added, all_there, known, known_part, known_telling, none_written, on_err, puts_none, puts_part, puts_telling, puts_whole, told_part}
use Rattle.log_host.proofs.Moments.{all_told, nothing_done, partly_told, partly_written, put_and_synced, settles, written, written_sum}
use Rattle.log_host.proofs.committing.commit.Goals as goal

pub returns-in_default-clause-lasts : goal.returns-in_default-clause-lasts
returns-in_default-clause-lasts g c log h acts is a = nothing_done _ _ _ _ _ _ a c.sum_after-all.result acts _ is

pub returns-in_err-append-clause-lasts : goal.returns-in_err-append-clause-lasts
returns-in_err-append-clause-lasts g c log h acts is a =
    partly_written _ _ _ _ _ _ a c.sum_after-all.result acts _ c.as_slice.result.now (known_part _ _ acts wrote _ is c.in_err-append.ensures.err)

pub returns-in_err-sync-clause-lasts : goal.returns-in_err-sync-clause-lasts
returns-in_err-sync-clause-lasts g c log h acts is a =
    let some = c.as_slice.result.now in
    written _ _ _ _ _ _ a c.sum_after-all.result acts _ _ some (known _ _ acts (wrote some ∷ []) is c.in_ok-append.ensures.ok) c.in_err-sync.ensures.err

pub returns-in_err-tell-clause-lasts : goal.returns-in_err-tell-clause-lasts
returns-in_err-tell-clause-lasts g c log h acts is a =
    let all = c.sum_after-all.result in
    let made = c.as_slice.ensures.value ∙ c.in-Ok.ensures.ok in
    let on = put_and_synced _ _ _ _ _ _ a all _ _ _ acts _ is made c.in_ok-append.ensures.ok c.in_ok-sync.ensures.ok in
    partly_told _ _ _ _ _ _ a all acts _ _ _ (known_telling _ _ _ _ _ _ on c.in_err-tell.ensures.err)

pub returns-clause-lasts : goal.returns-clause-lasts
returns-clause-lasts g c log h acts is a =
    let all = c.sum_after-all.result in
    let made = c.as_slice.ensures.value ∙ c.in-Ok.ensures.ok in
    let on = put_and_synced _ _ _ _ _ _ a all _ _ _ acts _ is made c.in_ok-append.ensures.ok c.in_ok-sync.ensures.ok in
    all_told _ _ _ _ _ _ a all acts _ (known _ _ _ (told c.args.text.now ∷ []) on c.in_ok-tell.ensures.ok)

pub returns-clause-settled : goal.returns-clause-settled
returns-clause-settled g c log h acts is a =
    let all = c.sum_after-all.result in
    let made = c.as_slice.ensures.value ∙ c.in-Ok.ensures.ok in
    let on = put_and_synced _ _ _ _ _ _ a all _ _ _ acts _ is made c.in_ok-append.ensures.ok c.in_ok-sync.ensures.ok in
    let now = g.H.LogHost.acts c.tell.new.self in
    let new = known _ now _ (told c.args.text.now ∷ []) on c.in_ok-tell.ensures.ok in
    let next = written_sum _ _ _ _ _ _ a all c.in-Ok.next c.in-Ok.ensures.sum in
    subst (λ n. SettlesFrom log h c.args.place.sum a.lines acts now n all) (sym next) (settles _ _ _ _ _ _ a all acts now new)

-- what was told of it

pub returns-in_err-append-clause-part : goal.returns-in_err-append-clause-part
returns-in_err-append-clause-part g c = on_err _ _ (none_written _ _ _ (Keeps-refl _))

pub returns-in_err-sync-clause-part : goal.returns-in_err-sync-clause-part
returns-in_err-sync-clause-part g c = on_err _ _ (none_written _ _ _ (Keeps-refl _))

pub returns-in_err-tell-clause-part : goal.returns-in_err-tell-clause-part
returns-in_err-tell-clause-part g c = on_err _ _ (told_part _ _ _ _ _ c.in_err-tell.ensures.err)

-- what was written of it

pub returns-in_default-clause-puts : goal.returns-in_default-clause-puts
returns-in_default-clause-puts g c = puts_none _ _

pub returns-in_err-append-clause-puts : goal.returns-in_err-append-clause-puts
returns-in_err-append-clause-puts g c =
    let made = c.as_slice.ensures.value ∙ c.in-Ok.ensures.ok ∙ all_there _ _ _ _ _ c.sum_after-all.ensures in
    puts_part _ _ _ _ made c.in_err-append.ensures.err

pub returns-in_err-sync-clause-puts : goal.returns-in_err-sync-clause-puts
returns-in_err-sync-clause-puts g c =
    let made = c.as_slice.ensures.value ∙ c.in-Ok.ensures.ok ∙ all_there _ _ _ _ _ c.sum_after-all.ensures in
    puts_whole _ _ _ _ _ [] made c.in_ok-append.ensures.ok c.in_err-sync.ensures.err refl

pub returns-in_err-tell-clause-puts : goal.returns-in_err-tell-clause-puts
returns-in_err-tell-clause-puts g c =
    let made = c.as_slice.ensures.value ∙ c.in-Ok.ensures.ok ∙ all_there _ _ _ _ _ c.sum_after-all.ensures in
    puts_telling _ _ _ _ _ _ _ _ _ made c.in_ok-append.ensures.ok c.in_ok-sync.ensures.ok c.in_err-tell.ensures.err

pub returns-clause-puts : goal.returns-clause-puts
returns-clause-puts g c =
    let made = c.as_slice.ensures.value ∙ c.in-Ok.ensures.ok ∙ all_there _ _ _ _ _ c.sum_after-all.ensures in
    puts_whole _ _ _ _ _ (synced ∷ told c.args.text.now ∷ []) made c.in_ok-append.ensures.ok
    (added _ _ _ (synced ∷ []) (told c.args.text.now ∷ []) c.in_ok-sync.ensures.ok c.in_ok-tell.ensures.ok) refl
