use Rattle.std.proofs.Common.{◌≡◌, List, ℕ, ◌∙◌, IfSome, ap, min, subst, take, arith}
use Rattle.std.specs.Prelude.{IsSomeAnd}
use Rattle.std.proofs.lemmas.Result.{err_from_is_err_and}
use Rattle.vs_host.specs.World.{Scene, content_of}
use Rattle.vs_disk.proofs.Quiet.{none_then}
use Rattle.vs_ufile.specs.Decode.{IsUndoFile}
use Rattle.vs_ufile.specs.Signature.{IsUnreadable}
use Rattle.vs_ufile.specs.Values.{history_of}
use Rattle.vs_ubind.proofs.Calls.{looked_then}
use Rattle.vs_ubind.proofs.Loads.{all_of, decode_error, fetch_failed, first_of, same_error}
use Rattle.vs_ubind.proofs.loading.load.Goals as goal

pub returns-in_err-first-clause-acts : goal.returns-in_err-first-clause-acts
returns-in_err-first-clause-acts g c =
    let s0 : Scene = g.F.World.scene c.args.host.now in
    looked_then g.F.World.tells s0 (g.F.World.scene c.size_of.new.host) (g.F.World.scene c.first_bytes.new.host) (c.in_ok-size.ensures.none (λ e. cc)) c.size_of.ensures.acts c.first_bytes.ensures.acts

pub returns-in_err-check_signature-clause-unreadable : goal.returns-in_err-check_signature-clause-unreadable
returns-in_err-check_signature-clause-unreadable g c error is told =
    let s0 : Scene = g.F.World.scene c.args.host.now in
    let s1 : Scene = g.F.World.scene c.size_of.new.host in
    let name = c.as_str-name.result.now in
    let first : List ℕ = c.in_ok-first.first.items in
    let count = c.min.result in
    let there : content_of s1 name ≡ content_of s0 name = ap (λ (s : Scene). content_of s name) c.size_of.ensures.frame in
    let part = subst (λ found. IfSome found (λ bytes. first ≡ take count bytes)) there (c.in_ok-first.ensures.found told) in
    let p = err_from_is_err_and c.from_residual-in_err-check_signature.result c.from_residual-in_err-check_signature.ensures.1 in
    let same = same_error c.from_residual-in_err-check_signature.result p.0 _ error p.1 p.2 is in
    let few : count ≡ min c.in_ok-size.size 11 = omega (arith, c.min.ensures) in
    subst (λ n. IsSomeAnd (content_of s0 n) (IsUnreadable error)) c.as_str-name.ensures
    (first_of (content_of s0 name) c.in_ok-size.size count first (IsUnreadable error) (c.in_ok-size.ensures.size told) part few
    (λ bytes is_first. subst (λ e. IsUnreadable e bytes) same (c.in_err-check_signature.ensures.decides bytes (c.deref.ensures.value ∙ is_first))))

pub returns-in_err-check_signature-clause-acts : goal.returns-in_err-check_signature-clause-acts
returns-in_err-check_signature-clause-acts g c =
    let s0 : Scene = g.F.World.scene c.args.host.now in
    looked_then g.F.World.tells s0 (g.F.World.scene c.size_of.new.host) (g.F.World.scene c.first_bytes.new.host) (c.in_ok-size.ensures.none (λ e. cc)) c.size_of.ensures.acts c.first_bytes.ensures.acts

pub returns-in_err-bytes-clause-acts : goal.returns-in_err-bytes-clause-acts
returns-in_err-bytes-clause-acts g c =
    let s0 : Scene = g.F.World.scene c.args.host.now in
    let s1 : Scene = g.F.World.scene c.size_of.new.host in
    let s2 : Scene = g.F.World.scene c.first_bytes.new.host in
    let first = looked_then g.F.World.tells s0 s1 s2 (c.in_ok-size.ensures.none (λ e. cc)) c.size_of.ensures.acts c.first_bytes.ensures.acts in
    looked_then g.F.World.tells s0 s2 (g.F.World.scene c.first_bytes-2.new.host) (none_then g.F.World.tells s0 s1 s2 (c.in_ok-size.ensures.none (λ e. cc)) (c.in_ok-first.ensures.none (λ e. cc))) first c.first_bytes-2.ensures.acts

pub returns-in_err-history-clause-unreadable : goal.returns-in_err-history-clause-unreadable
returns-in_err-history-clause-unreadable g c error is told =
    let s0 : Scene = g.F.World.scene c.args.host.now in
    let s2 : Scene = g.F.World.scene c.first_bytes.new.host in
    let name = c.as_str-name.result.now in
    let bytes : List ℕ = c.in_ok-bytes.bytes.items in
    let size = c.in_ok-size.size in
    let there : content_of s2 name ≡ content_of s0 name = ap (λ (s : Scene). content_of s name) c.first_bytes.ensures.frame ∙ ap (λ (s : Scene). content_of s name) c.size_of.ensures.frame in
    let part = subst (λ found. IfSome found (λ all. bytes ≡ take size all)) there (c.in_ok-bytes.ensures.found told) in
    let p = err_from_is_err_and c.from_residual-in_err-history.result c.from_residual-in_err-history.ensures.1 in
    let refused = subst (IsUnreadable error) c.deref-2.ensures.value (decode_error c.from_residual-in_err-history.result p.0 _ error c.deref-2.result.now p.1 p.2 is c.in_err-history.ensures.exact) in
    subst (λ n. IsSomeAnd (content_of s0 n) (IsUnreadable error)) c.as_str-name.ensures (all_of (content_of s0 name) size bytes (IsUnreadable error) (c.in_ok-size.ensures.size told) part refused)

pub returns-in_err-history-clause-acts : goal.returns-in_err-history-clause-acts
returns-in_err-history-clause-acts g c =
    let s0 : Scene = g.F.World.scene c.args.host.now in
    let s1 : Scene = g.F.World.scene c.size_of.new.host in
    let s2 : Scene = g.F.World.scene c.first_bytes.new.host in
    let first = looked_then g.F.World.tells s0 s1 s2 (c.in_ok-size.ensures.none (λ e. cc)) c.size_of.ensures.acts c.first_bytes.ensures.acts in
    looked_then g.F.World.tells s0 s2 (g.F.World.scene c.first_bytes-2.new.host) (none_then g.F.World.tells s0 s1 s2 (c.in_ok-size.ensures.none (λ e. cc)) (c.in_ok-first.ensures.none (λ e. cc))) first c.first_bytes-2.ensures.acts

pub returns-clause-found : goal.returns-clause-found
returns-clause-found g c told =
    let s0 : Scene = g.F.World.scene c.args.host.now in
    let s2 : Scene = g.F.World.scene c.first_bytes.new.host in
    let name = c.as_str-name.result.now in
    let bytes : List ℕ = c.in_ok-bytes.bytes.items in
    let size = c.in_ok-size.size in
    let history = history_of c.in_ok-history.history in
    let there : content_of s2 name ≡ content_of s0 name = ap (λ (s : Scene). content_of s name) c.first_bytes.ensures.frame ∙ ap (λ (s : Scene). content_of s name) c.size_of.ensures.frame in
    let part = subst (λ found. IfSome found (λ all. bytes ≡ take size all)) there (c.in_ok-bytes.ensures.found told) in
    let is = subst (IsUndoFile history) c.deref-2.ensures.value c.in_ok-history.ensures.found in
    subst (λ n. IsSomeAnd (content_of s0 n) (IsUndoFile history)) c.as_str-name.ensures (all_of (content_of s0 name) size bytes (IsUndoFile history) (c.in_ok-size.ensures.size told) part is)

pub returns-clause-acts : goal.returns-clause-acts
returns-clause-acts g c =
    let s0 : Scene = g.F.World.scene c.args.host.now in
    let s1 : Scene = g.F.World.scene c.size_of.new.host in
    let s2 : Scene = g.F.World.scene c.first_bytes.new.host in
    let first = looked_then g.F.World.tells s0 s1 s2 (c.in_ok-size.ensures.none (λ e. cc)) c.size_of.ensures.acts c.first_bytes.ensures.acts in
    looked_then g.F.World.tells s0 s2 (g.F.World.scene c.first_bytes-2.new.host) (none_then g.F.World.tells s0 s1 s2 (c.in_ok-size.ensures.none (λ e. cc)) (c.in_ok-first.ensures.none (λ e. cc))) first c.first_bytes-2.ensures.acts

pub returns-clause-none : goal.returns-clause-none
returns-clause-none g c calm =
    let s0 : Scene = g.F.World.scene c.args.host.now in
    let s1 : Scene = g.F.World.scene c.size_of.new.host in
    let s2 : Scene = g.F.World.scene c.first_bytes.new.host in
    none_then g.F.World.tells s0 s2 (g.F.World.scene c.first_bytes-2.new.host) (none_then g.F.World.tells s0 s1 s2 (c.in_ok-size.ensures.none (λ e. cc)) (c.in_ok-first.ensures.none (λ e. cc))) (c.in_ok-bytes.ensures.none (λ e. cc))

pub returns-in_err-size-clause-none : goal.returns-in_err-size-clause-none
returns-in_err-size-clause-none g c calm = c.in_err-size.ensures.none (λ failed. calm (fetch_failed c.from_residual.result _ c.from_residual.ensures.1 failed))

pub returns-in_err-first-clause-none : goal.returns-in_err-first-clause-none
returns-in_err-first-clause-none g c calm =
    none_then g.F.World.tells (g.F.World.scene c.args.host.now) (g.F.World.scene c.size_of.new.host) (g.F.World.scene c.first_bytes.new.host) (c.in_ok-size.ensures.none (λ e. cc))
    (c.in_err-first.ensures.none (λ failed. calm (fetch_failed c.from_residual-in_err-first.result _ c.from_residual-in_err-first.ensures.1 failed)))

pub returns-in_err-check_signature-clause-none : goal.returns-in_err-check_signature-clause-none
returns-in_err-check_signature-clause-none g c calm =
    none_then g.F.World.tells (g.F.World.scene c.args.host.now) (g.F.World.scene c.size_of.new.host) (g.F.World.scene c.first_bytes.new.host) (c.in_ok-size.ensures.none (λ e. cc)) (c.in_ok-first.ensures.none (λ e. cc))

pub returns-in_err-bytes-clause-none : goal.returns-in_err-bytes-clause-none
returns-in_err-bytes-clause-none g c calm =
    let s0 : Scene = g.F.World.scene c.args.host.now in
    let s1 : Scene = g.F.World.scene c.size_of.new.host in
    let s2 : Scene = g.F.World.scene c.first_bytes.new.host in
    none_then g.F.World.tells s0 s2 (g.F.World.scene c.first_bytes-2.new.host) (none_then g.F.World.tells s0 s1 s2 (c.in_ok-size.ensures.none (λ e. cc)) (c.in_ok-first.ensures.none (λ e. cc)))
    (c.in_err-bytes.ensures.none (λ failed. calm (fetch_failed c.from_residual-in_err-bytes.result _ c.from_residual-in_err-bytes.ensures.1 failed)))

pub returns-in_err-history-clause-none : goal.returns-in_err-history-clause-none
returns-in_err-history-clause-none g c calm =
    let s0 : Scene = g.F.World.scene c.args.host.now in
    let s1 : Scene = g.F.World.scene c.size_of.new.host in
    let s2 : Scene = g.F.World.scene c.first_bytes.new.host in
    none_then g.F.World.tells s0 s2 (g.F.World.scene c.first_bytes-2.new.host) (none_then g.F.World.tells s0 s1 s2 (c.in_ok-size.ensures.none (λ e. cc)) (c.in_ok-first.ensures.none (λ e. cc))) (c.in_ok-bytes.ensures.none (λ e. cc))
