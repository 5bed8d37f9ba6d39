-- What is told of a text is its first fault.
use Rattle.std.proofs.Common.{◌≡◌, ℕ, ◌-◌, List, length, take, drop, refl, sym, ap, subst, ◌∙◌, length-drop, Some, None}
use Rattle.std.proofs.Math.Seq.{take-length}
use Rattle.std.proofs.lemmas.List.{drop-map, length-map}
use Rattle.fc_syntax.specs.Tokens.{ByteFault}
use Rattle.fc_syntax.specs.declared.fault.FaultKind.TheVariants as fault
use Rattle.fc_syntax.specs.declared.fault.Refusal.{Refusal}
use Rattle.fc_syntax.specs.declared.fault.Refusal.TheVariants as refusal
use Rattle.fc_log.specs.declared.cut.Piece.{Piece}
use Rattle.fc_log.specs.declared.tokens.Stop.TheVariants as stop
use Rattle.fc_log.specs.Grammar.{LogToken, Stand, AtStart, BehindPath, Outcome, Got, Stuck, reads}
use Rattle.fc_log.specs.Reading.{Tells, stop_of, tokens_in}
use Rattle.fc_log.specs.Seen.{seen, seen_all}
use Rattle.fc_read_parts.specs.Refusing.{IsRefusalAt}
use Rattle.fc_log.specs.Texts.{FirstLogFault, of_form, IsLogRefusal, answer_kind, bad_byte_from, byte_of, cuts_of, log_tokens_of, stuck_at, stuck_kind}

pub told : (file bytes : List ℕ) (e : ByteFault) (r : Refusal) → FirstLogFault bytes e → IsRefusalAt file e.kind e.at r → IsLogRefusal file bytes r
told file bytes e refusal.Memory f h = tt
told file bytes e (refusal.Fault g) f h = (e, f, ap (λ d. d.kind) h, ap (λ d. d.module) h, ap (λ d. d.def) h, ap (λ d. d.path) h)

form_at : (s : Stand) (n left : ℕ) (ts : List LogToken) → stop_of (Stuck s n) ≡ Some (stop.Form left) → (n ≡ left) × (stuck_kind s ts ≡ fault.BadForm)
form_at (BehindPath m es d p) n left ts h = absurd (cc)
form_at s n left ts h = (cc, refl)

answer_at : (s : Stand) (n left : ℕ) (ts : List LogToken) → stop_of (Stuck s n) ≡ Some (stop.Answer left) → (n ≡ left) × (stuck_kind s ts ≡ answer_kind ts)
answer_at (BehindPath m es d p) n left ts h = (cc, refl)
answer_at s n left ts h = absurd (cc)

-- where the tokens stop
stopped_at : (bytes : List ℕ) (s : Stand) (n left : ℕ) → bad_byte_from 0 bytes ≡ None → n ≡ left → reads AtStart (log_tokens_of bytes) ≡ Stuck s n
    → FirstLogFault bytes (record { kind = stuck_kind s (tokens_in (stuck_at left (cuts_of bytes))); at = byte_of bytes (stuck_at left (cuts_of bytes)) })
stopped_at bytes s n left clean e q = of_form s left clean (q ∙ ap (Stuck s) e)

pub form_fault : (bytes : List ℕ) (left : ℕ) (o : Outcome) → bad_byte_from 0 bytes ≡ None → reads AtStart (log_tokens_of bytes) ≡ o → Tells o (stop.Form left)
    → FirstLogFault bytes (record { kind = fault.BadForm; at = byte_of bytes (stuck_at left (cuts_of bytes)) })
form_fault bytes left (Got l) clean q h = absurd (cc)
form_fault bytes left (Stuck s n) clean q h =
    let a = form_at s n left (tokens_in (stuck_at left (cuts_of bytes))) h in
    subst (λ k. FirstLogFault bytes (record { kind = k; at = byte_of bytes (stuck_at left (cuts_of bytes)) })) a.1 (stopped_at bytes s n left clean a.0 q)

pub answer_fault : (bytes : List ℕ) (left : ℕ) (o : Outcome) → bad_byte_from 0 bytes ≡ None → reads AtStart (log_tokens_of bytes) ≡ o → Tells o (stop.Answer left)
    → FirstLogFault bytes (record { kind = answer_kind (tokens_in (stuck_at left (cuts_of bytes))); at = byte_of bytes (stuck_at left (cuts_of bytes)) })
answer_fault bytes left (Got l) clean q h = absurd (cc)
answer_fault bytes left (Stuck s n) clean q h =
    let a = answer_at s n left (tokens_in (stuck_at left (cuts_of bytes))) h in
    subst (λ k. FirstLogFault bytes (record { kind = k; at = byte_of bytes (stuck_at left (cuts_of bytes)) })) a.1 (stopped_at bytes s n left clean a.0 q)

-- the last pieces are the last cuts
pub last_cuts : (ps : List Piece) (n left : ℕ) → n ≡ length ps - left → seen_all (take (length ps - n) (drop n ps)) ≡ stuck_at left (seen_all ps)
last_cuts ps n left e =
    let all : take (length ps - n) (drop n ps) ≡ drop n ps = ap (λ k. take k (drop n ps)) (sym (length-drop n ps)) ∙ take-length (drop n ps) in
    ap seen_all all ∙ (sym (drop-map seen n ps) ∙ ap (λ k. drop k (seen_all ps)) (e ∙ ap (λ k. k - left) (sym (length-map ps seen))))
