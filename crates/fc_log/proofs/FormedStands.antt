-- What is read so far is formed, wherever reading stands.
use Rattle.std.proofs.Common.{◌≡◌, Bool, true, false, List, [], ◌∷◌, ◌++◌, refl, sym, ◌∙◌, subst, Option, Some, None}
use Rattle.std.specs.Prelude.{All, ⊤, codes, if◌then◌else◌, option_map}
use Rattle.std.specs.Str.{bytes_eq}
use Rattle.std.proofs.lemmas.List.Elements.{All-nil, All-cons, All-append}
use Rattle.fc_syntax.specs.Tree.{Word}
use Rattle.fc_syntax.specs.Tokens.{is_module_name}
use Rattle.fc_syntax.specs.declared.fault.Place.{Place}
use Rattle.fc_log.specs.declared.log.Answer.{Answer}
use Rattle.fc_log.specs.declared.log.Entry.{Entry}
use Rattle.fc_log.specs.declared.log.Entry.TheVariants as entry
use Rattle.fc_log.specs.declared.log.Log.{Log}
use Rattle.fc_log.specs.declared.log.Phase.{Phase}
use Rattle.fc_log.specs.declared.log.Row.{Row}
use Rattle.fc_log.specs.declared.log.Row.TheVariants as row
use Rattle.fc_log.specs.Grammar.{LogToken, AWord, ALineEnd, Stand, AtStart, BehindLog, BehindOne, BehindModule, AtLine, BehindMark, BehindStep, BehindRow, BehindDef, BehindPath, BehindEntry, Got, answer_of, def_of, is_fold, next, place_of, reads, step_at}
use Rattle.fc_log.specs.Laws.{SpellsFormed}
use Rattle.fc_log.specs.Names.{phase_of, row_of}
use Rattle.fc_log.specs.Texts.{IsFormedEntry, IsFormedLog, log_tokens_of}
use Rattle.fc_log.proofs.Formed.{FitsRow, StandsFor, answer_formed, def_fits, fold_formed, fold_is, part_formed, place_stands}
use Rattle.fc_log.proofs.OneMore.{reads_on}

-- the name and the lines so far
record SoFar (m : Word) (es : List Entry) : Type 0 where
  named : is_module_name m ≡ true
  entries : All IsFormedEntry es

abbrev IsFormedStand : Stand → Type 0
IsFormedStand AtStart = ⊤
IsFormedStand BehindLog = ⊤
IsFormedStand BehindOne = ⊤
IsFormedStand (BehindModule m) = is_module_name m ≡ true
IsFormedStand (AtLine m es) = SoFar m es
IsFormedStand (BehindMark m es) = SoFar m es
IsFormedStand (BehindStep m es) = SoFar m es
IsFormedStand (BehindRow m es r) = SoFar m es
IsFormedStand (BehindDef m es r d) = SoFar m es × FitsRow r d
IsFormedStand (BehindPath m es d p) = SoFar m es × FitsRow row.Fold d × StandsFor row.Fold p
IsFormedStand (BehindEntry m es e) = SoFar m es × IsFormedEntry e

-- BY ONE TOKEN MORE

on : (s u : Stand) → Some s ≡ Some u → IsFormedStand s → IsFormedStand u
on s u e h = subst IsFormedStand (let k : s ≡ u = cc in k) h

if_word : (b : Bool) (s u : Stand) → (if b then Some s else None) ≡ Some u → (b ≡ true → IsFormedStand s) → IsFormedStand u
if_word true s u e h = on s u e (h refl)
if_word false s u e h = absurd (cc)

line_word : (p q : Bool) (m : Word) (es : List Entry) (u : Stand) → (if p then Some (BehindMark m es) else (if q then Some (BehindStep m es) else None)) ≡ Some u → SoFar m es → IsFormedStand u
line_word true q m es u e h = on (BehindMark m es) u e h
line_word false true m es u e h = on (BehindStep m es) u e h
line_word false false m es u e h = absurd (cc)

phase_word : (m : Word) (es : List Entry) (o : Option Phase) (u : Stand) → option_map (λ p. BehindEntry m es (entry.Mark p)) o ≡ Some u → SoFar m es → IsFormedStand u
phase_word m es None u e h = absurd (cc)
phase_word m es (Some p) u e h = on (BehindEntry m es (entry.Mark p)) u e (h, tt)

row_word : (m : Word) (es : List Entry) (o : Option Row) (u : Stand) → option_map (λ r. BehindRow m es r) o ≡ Some u → SoFar m es → IsFormedStand u
row_word m es None u e h = absurd (cc)
row_word m es (Some r) u e h = on (BehindRow m es r) u e h

def_word : (m : Word) (es : List Entry) (r : Row) (o : Option (Option Word)) (u : Stand) → option_map (λ d. BehindDef m es r d) o ≡ Some u → ((d : Option Word) → o ≡ Some d → FitsRow r d) → SoFar m es → IsFormedStand u
def_word m es r None u e k h = absurd (cc)
def_word m es r (Some d) u e k h = on (BehindDef m es r d) u e (h, k d refl)

-- behind a place the answer of a fold stands next, or the line ends
behind_place : (m : Word) (es : List Entry) (r : Row) (d : Option Word) (p : Place) (f : Bool) → is_fold r ≡ f → SoFar m es → FitsRow r d → StandsFor r p
    → IsFormedStand (if f then BehindPath m es d p else BehindEntry m es (step_at r d p None))
behind_place m es r d p true e h a b = (h, subst (λ r. FitsRow r d) (fold_is r e) a, subst (λ r. StandsFor r p) (fold_is r e) b)
behind_place m es r d p false e h a b = (h, part_formed r d p e a b)

place_word : (m : Word) (es : List Entry) (r : Row) (d : Option Word) (o : Option Place) (u : Stand)
    → option_map (λ p. if is_fold r then BehindPath m es d p else BehindEntry m es (step_at r d p None)) o ≡ Some u → ((p : Place) → o ≡ Some p → StandsFor r p) → SoFar m es → FitsRow r d → IsFormedStand u
place_word m es r d None u e k h a = absurd (cc)
place_word m es r d (Some p) u e k h a = on (if is_fold r then BehindPath m es d p else BehindEntry m es (step_at r d p None)) u e (behind_place m es r d p (is_fold r) refl h a (k p refl))

answer_word : (m : Word) (es : List Entry) (d : Option Word) (p : Place) (w : List _) (o : Option Answer) (u : Stand) → answer_of w ≡ o
    → option_map (λ a. BehindEntry m es (step_at row.Fold d p (Some a))) o ≡ Some u → SoFar m es → FitsRow row.Fold d → StandsFor row.Fold p → IsFormedStand u
answer_word m es d p w None u q e h a b = absurd (cc)
answer_word m es d p w (Some x) u q e h a b = on (BehindEntry m es (step_at row.Fold d p (Some x))) u e (h, fold_formed d p x a b (answer_formed w x q))

next_formed : (s u : Stand) (t : LogToken) → next s t ≡ Some u → IsFormedStand s → IsFormedStand u
next_formed AtStart u (AWord w) e h = if_word (bytes_eq w (codes "log")) BehindLog u e (λ _. tt)
next_formed BehindLog u (AWord w) e h = if_word (bytes_eq w (codes "1")) BehindOne u e (λ _. tt)
next_formed BehindOne u (AWord w) e h = if_word (is_module_name w) (BehindModule w) u e (λ k. k)
next_formed (BehindModule m) u ALineEnd e h = on (AtLine m []) u e (record { named = h; entries = All-nil IsFormedEntry })
next_formed (AtLine m es) u (AWord w) e h = line_word (bytes_eq w (codes "mark")) (bytes_eq w (codes "step")) m es u e h
next_formed (BehindMark m es) u (AWord w) e h = phase_word m es (phase_of w) u e h
next_formed (BehindStep m es) u (AWord w) e h = row_word m es (row_of w) u e h
next_formed (BehindRow m es r) u (AWord w) e h = def_word m es r (def_of r w) u e (def_fits r w) h
next_formed (BehindDef m es r d) u (AWord w) e h = place_word m es r d (place_of r w) u e (place_stands r w) h.0 h.1
next_formed (BehindPath m es d p) u (AWord w) e h = answer_word m es d p w (answer_of w) u refl e h.0 h.1 h.2
next_formed (BehindEntry m es x) u ALineEnd e h =
    on (AtLine m (es ++ x ∷ [])) u e (record { named = h.0.named; entries = All-append IsFormedEntry es (x ∷ []) h.0.entries (All-cons IsFormedEntry x [] h.1 (All-nil IsFormedEntry)) })
next_formed s u t e h = absurd (cc)

-- ALL TOKENS

formed_at : (m : Word) (es : List Entry) (l : Log) → SoFar m es → Got (record { «module» = m; entries = es }) ≡ Got l → IsFormedLog l
formed_at m es l h e = subst IsFormedLog (let k : record { «module» = m; entries = es } ≡ l = cc in k) (record { named = h.named; entries = h.entries })

formed_end : (s : Stand) (l : Log) → reads s [] ≡ Got l → IsFormedStand s → IsFormedLog l
formed_end (AtLine m es) l e h = formed_at m es l h e
formed_end s l e h = absurd (cc)

formed_step : (s : Stand) (t : LogToken) (ts : List LogToken) (l : Log) (o : Option Stand) → next s t ≡ o → reads s (t ∷ ts) ≡ Got l → ((u : Stand) → reads u ts ≡ Got l → IsFormedStand u → IsFormedLog l)
    → IsFormedStand s → IsFormedLog l
formed_step s t ts l None q e k h = absurd (let f = rw (q, reads) at e in cc)
formed_step s t ts l (Some u) q e k h = k u (sym (reads_on s u t ts q) ∙ e) (next_formed s u t q h)

formed_from : (ts : List LogToken) (s : Stand) (l : Log) → reads s ts ≡ Got l → IsFormedStand s → IsFormedLog l
formed_from [] s l e h = formed_end s l e h
formed_from (t ∷ ts) s l e h = formed_step s t ts l (next s t) refl e (λ u. formed_from ts u l) h

pub spells_formed : SpellsFormed
spells_formed bytes l e = formed_from (log_tokens_of bytes) AtStart l e tt
