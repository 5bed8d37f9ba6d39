-- A log that is read up to anywhere can be completed.
use Rattle.std.proofs.Common.{◌≡◌, Bool, true, false, List, [], ◌∷◌, ◌++◌, refl, ◌∙◌, Option, Some, None}
use Rattle.std.specs.Prelude.{codes, if◌then◌else◌}
use Rattle.fc_syntax.specs.Tree.{Word}
use Rattle.fc_syntax.specs.declared.fault.Place.{Place}
use Rattle.fc_syntax.specs.declared.fault.Place.TheVariants as place
use Rattle.fc_log.specs.declared.log.Answer.TheVariants as answer
use Rattle.fc_log.specs.declared.log.Entry.{Entry}
use Rattle.fc_log.specs.declared.log.Entry.TheVariants as entry
use Rattle.fc_log.specs.declared.log.Log.{Log}
use Rattle.fc_log.specs.declared.log.Phase.TheVariants as phase
use Rattle.fc_log.specs.declared.log.Row.{Row}
use Rattle.fc_log.specs.declared.log.Row.TheVariants as row
use Rattle.fc_log.specs.Grammar.{LogToken, AWord, ALineEnd, Stand, AtStart, BehindLog, BehindOne, BehindModule, AtLine, BehindMark, BehindStep, BehindRow, BehindDef, BehindPath, BehindEntry, Got, is_def_dead, is_fold, next, reads, step_at}
use Rattle.fc_log.specs.Laws.{GoesOn}
use Rattle.fc_log.specs.Names.{phase_of, row_of}
use Rattle.fc_log.proofs.OneMore.{reads_on}

-- how it goes on from there
abbrev Ends : Stand → Type 0
Ends s = (ts : List LogToken) × ((l : Log) × (reads s ts ≡ Got l))

-- by one token more
before : (s u : Stand) (t : LogToken) → next s t ≡ Some u → Ends u → Ends s
before s u t e h = (t ∷ h.0, (h.1.0, reads_on s u t h.0 e ∙ h.1.1))

at_line : (m : Word) (es : List Entry) → Ends (AtLine m es)
at_line m es = ([], (record { «module» = m; entries = es }, refl))

behind_entry : (m : Word) (es : List Entry) (e : Entry) → Ends (BehindEntry m es e)
behind_entry m es e = before (BehindEntry m es e) (AtLine m (es ++ e ∷ [])) ALineEnd refl (at_line m (es ++ e ∷ []))

behind_path : (m : Word) (es : List Entry) (d : Option Word) (p : Place) → Ends (BehindPath m es d p)
behind_path m es d p = let e = step_at row.Fold d p (Some answer.First) in before (BehindPath m es d p) (BehindEntry m es e) (AWord (codes "first")) refl (behind_entry m es e)

behind_place : (m : Word) (es : List Entry) (r : Row) (d : Option Word) (p : Place) (f : Bool) → Ends (if f then BehindPath m es d p else BehindEntry m es (step_at r d p None))
behind_place m es r d p true = behind_path m es d p
behind_place m es r d p false = behind_entry m es (step_at r d p None)

behind_def : (m : Word) (es : List Entry) (r : Row) (d : Option Word) (b : Bool) → is_def_dead r ≡ b → Ends (BehindDef m es r d)
behind_def m es r d true e =
    before (BehindDef m es r d) (if is_fold r then BehindPath m es d place.Nowhere else BehindEntry m es (step_at r d place.Nowhere None)) (AWord (codes "-")) (rw e refl) (behind_place m es r d place.Nowhere (is_fold r))
behind_def m es r d false e =
    let p = place.Parts (0 ∷ []) in
    before (BehindDef m es r d) (if is_fold r then BehindPath m es d p else BehindEntry m es (step_at r d p None)) (AWord (codes "0")) (rw e refl) (behind_place m es r d p (is_fold r))

behind_row : (m : Word) (es : List Entry) (r : Row) (b : Bool) → is_def_dead r ≡ b → Ends (BehindRow m es r)
behind_row m es r true e = before (BehindRow m es r) (BehindDef m es r None) (AWord (codes "-")) (rw e refl) (behind_def m es r None true e)
behind_row m es r false e = before (BehindRow m es r) (BehindDef m es r (Some (codes "x"))) (AWord (codes "x")) (rw e refl) (behind_def m es r (Some (codes "x")) false e)

behind_step : (m : Word) (es : List Entry) → Ends (BehindStep m es)
unfolding row_of
behind_step m es = before (BehindStep m es) (BehindRow m es row.Beta) (AWord (codes "beta")) refl (behind_row m es row.Beta false refl)

behind_mark : (m : Word) (es : List Entry) → Ends (BehindMark m es)
unfolding phase_of
behind_mark m es = before (BehindMark m es) (BehindEntry m es (entry.Mark phase.Simplify)) (AWord (codes "simplify")) refl (behind_entry m es (entry.Mark phase.Simplify))

behind_module : (m : Word) → Ends (BehindModule m)
behind_module m = before (BehindModule m) (AtLine m []) ALineEnd refl (at_line m [])

behind_one : Ends BehindOne
behind_one = before BehindOne (BehindModule (codes "M")) (AWord (codes "M")) refl (behind_module (codes "M"))

behind_log : Ends BehindLog
behind_log = before BehindLog BehindOne (AWord (codes "1")) refl behind_one

pub goes_on : GoesOn
goes_on AtStart = before AtStart BehindLog (AWord (codes "log")) refl behind_log
goes_on BehindLog = behind_log
goes_on BehindOne = behind_one
goes_on (BehindModule m) = behind_module m
goes_on (AtLine m es) = at_line m es
goes_on (BehindMark m es) = behind_mark m es
goes_on (BehindStep m es) = behind_step m es
goes_on (BehindRow m es r) = behind_row m es r (is_def_dead r) refl
goes_on (BehindDef m es r d) = behind_def m es r d (is_def_dead r) refl
goes_on (BehindPath m es d p) = behind_path m es d p
goes_on (BehindEntry m es e) = behind_entry m es e
