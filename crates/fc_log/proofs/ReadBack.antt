-- The text of a formed log spells that log.
use Rattle.std.proofs.Common.{◌≡◌, ℕ, Bool, true, false, List, [], ◌∷◌, ◌++◌, refl, sym, ap, ◌∙◌, append_assoc, Some, None}
use Rattle.std.specs.Prelude.{All, codes}
use Rattle.std.specs.Fmt.{signed_decimal}
use Rattle.std.specs.List.{list_all}
use Rattle.std.specs.Str.{bytes_eq}
use Rattle.std.proofs.lemmas.Bool.{true≢false}
use Rattle.std.proofs.lemmas.List.{append-nil}
use Rattle.std.proofs.lemmas.List.Elements.{All-head, All-tail}
use Rattle.std.proofs.lemmas.Slice.Eq.{bytes_eq-Decides}
use Rattle.fc_syntax.specs.Tree.{Word}
use Rattle.fc_syntax.specs.Tokens.{is_literal, is_lower_name, is_plain}
use Rattle.fc_syntax.specs.declared.fault.Place.TheVariants as place
use Rattle.fc_lex.proofs.Printed.{literal_plain}
use Rattle.fc_printer.proofs.ModuleNames.{module_is_plain}
use Rattle.fc_log.specs.declared.log.Answer.{Answer}
use Rattle.fc_log.specs.declared.log.Answer.TheVariants as answer
use Rattle.fc_log.specs.declared.log.Entry.{Entry}
use Rattle.fc_log.specs.declared.log.Entry.TheVariants as entry
use Rattle.fc_log.specs.declared.log.Phase.{Phase}
use Rattle.fc_log.specs.declared.log.Phase.TheVariants as phase
use Rattle.fc_log.specs.declared.log.Row.{Row}
use Rattle.fc_log.specs.declared.log.Row.TheVariants as row
use Rattle.fc_log.specs.Grammar.{LogToken, AWord, ALineEnd, AtStart, BehindOne, BehindModule, AtLine, BehindMark, BehindStep, BehindRow, BehindDef, BehindPath, BehindEntry, Got, answer_of, is_def_dead, reads, step_at}
use Rattle.fc_log.specs.Laws.{ReadsBack}
use Rattle.fc_log.specs.Names.{phase_of, phase_text, row_of, row_text}
use Rattle.fc_log.specs.Texts.{IsAnswer, IsFormedEntry, of_fold, of_module, of_part, IsPath, answer_words, def_text, entries_text, entry_words, line_text, log_text, path_text, place_text}
use Rattle.fc_log.proofs.Lines.{line_split, line_tokens, split_on, tokens_of_text}
use Rattle.fc_log.proofs.Numerals.{path_is, path_value, printed_is, written}
use Rattle.fc_log.proofs.OneMore.{reads_on}
use Rattle.fc_log.proofs.Plain.{lower_plain, path_plain, phase_plain, row_plain}

-- WORDS

row_back : (r : Row) → row_of (row_text r) ≡ Some r
unfolding row_of
row_back row.Beta = refl
row_back r = refl

phase_back : (p : Phase) → phase_of (phase_text p) ≡ Some p
unfolding phase_of
phase_back phase.Simplify = refl
phase_back p = refl

-- a literal is no other word
not_word_by : (w v : List ℕ) (b : Bool) → bytes_eq w v ≡ b → is_literal w ≡ true → is_literal v ≡ false → bytes_eq w v ≡ false
not_word_by w v true e l n = absurd (true≢false (sym l ∙ (ap is_literal ((bytes_eq-Decides w v).0 e) ∙ n)))
not_word_by w v false e l n = e

not_word : (w v : List ℕ) → is_literal w ≡ true → is_literal v ≡ false → bytes_eq w v ≡ false
not_word w v = not_word_by w v (bytes_eq w v) refl

-- the word of an answer
record IsAnswerWord (w : List ℕ) (a : Answer) : Type 0 where
  words : answer_words (Some a) ≡ w ∷ []
  read : answer_of w ≡ Some a
  plain : list_all is_plain w ≡ true

answer_word : (a : Answer) → IsAnswer a → (w : List ℕ) × IsAnswerWord w a
answer_word answer.First h = (codes "first", record { words = refl; read = refl; plain = refl })
answer_word answer.Second h = (codes "second", record { words = refl; read = refl; plain = refl })
answer_word (answer.Literal n) h =
    let w = signed_decimal n ++ 35 ∷ [] in
    let p = printed_is n h in
    let one : bytes_eq w (codes "first") ≡ false = not_word w (codes "first") p.shape refl in
    let two : bytes_eq w (codes "second") ≡ false = not_word w (codes "second") p.shape refl in
    (w, record { words = refl; read = rw (one, two, written n h, p.in_range) (ap (λ v. Some (answer.Literal v)) p.value); plain = literal_plain n h })

-- LINES

mark_read : (m : Word) (es : List Entry) (p : Phase) (ts : List LogToken) → reads (AtLine m es) (line_tokens (entry_words (entry.Mark p)) ts) ≡ reads (AtLine m (es ++ entry.Mark p ∷ [])) ts
mark_read m es p ts =
    reads_on (BehindMark m es) (BehindEntry m es (entry.Mark p)) (AWord (phase_text p)) (ALineEnd ∷ ts) (rw (phase_back p) refl)

-- the words of a step that stands at a part
part_words : (m : Word) (es : List Entry) (r : Row) (w : Word) (ns : List ℕ) (ts : List LogToken) → is_def_dead r ≡ false → is_lower_name w ≡ true → IsPath ns
    → reads (AtLine m es) (AWord (codes "step") ∷ AWord (row_text r) ∷ AWord w ∷ ts) ≡ reads (BehindDef m es r (Some w)) ts
part_words m es r w ns ts d l p =
    reads_on (BehindStep m es) (BehindRow m es r) (AWord (row_text r)) (AWord w ∷ ts) (rw (row_back r) refl)
    ∙ reads_on (BehindRow m es r) (BehindDef m es r (Some w)) (AWord w) ts (rw (d, l) refl)

step_read : (m : Word) (es : List Entry) (e : Entry) (ts : List LogToken) → IsFormedEntry e → reads (AtLine m es) (line_tokens (entry_words e) ts) ≡ reads (AtLine m (es ++ e ∷ [])) ts
unfolding row_of
step_read m es (entry.Mark p) ts h = mark_read m es p ts
step_read m es (entry.Step _) ts of_module = refl
step_read m es (entry.Step _) ts (of_part r w ns d f l p) =
    part_words m es r w ns (AWord (path_text ns) ∷ ALineEnd ∷ ts) d l p
    ∙ reads_on (BehindDef m es r (Some w)) (BehindEntry m es (step_at r (Some w) (place.Parts ns) None)) (AWord (path_text ns)) (ALineEnd ∷ ts) (rw (d, path_is ns p, f) (ap (λ v. Some (BehindEntry m es (step_at r (Some w) (place.Parts v) None))) (path_value ns p)))
step_read m es (entry.Step _) ts (of_fold w ns a l p h) =
    let x = answer_word a h in
    part_words m es row.Fold w ns (AWord (path_text ns) ∷ line_tokens (answer_words (Some a)) ts) refl l p
    ∙ (reads_on (BehindDef m es row.Fold (Some w)) (BehindPath m es (Some w) (place.Parts ns)) (AWord (path_text ns)) (line_tokens (answer_words (Some a)) ts) (rw (path_is ns p) (ap (λ v. Some (BehindPath m es (Some w) (place.Parts v))) (path_value ns p)))
    ∙ (ap (λ ws. reads (BehindPath m es (Some w) (place.Parts ns)) (line_tokens ws ts)) x.1.words
    ∙ reads_on (BehindPath m es (Some w) (place.Parts ns)) (BehindEntry m es (step_at row.Fold (Some w) (place.Parts ns) (Some a))) (AWord x.0) (ALineEnd ∷ ts) (rw x.1.read refl)))

-- PLAIN LINES

three : (a b c : List ℕ) → list_all is_plain a ≡ true → list_all is_plain b ≡ true → list_all is_plain c ≡ true → list_all (list_all is_plain) (a ∷ b ∷ c ∷ []) ≡ true
three a b c h k l = rw (h, k, l) refl

four : (a b c : List ℕ) (ds : List (List ℕ)) → list_all is_plain a ≡ true → list_all is_plain b ≡ true → list_all is_plain c ≡ true → list_all (list_all is_plain) ds ≡ true
    → list_all (list_all is_plain) (a ∷ b ∷ c ∷ ds) ≡ true
four a b c ds h k l d = rw (h, k, l) d

mark_plain : (p : Phase) → list_all (list_all is_plain) (entry_words (entry.Mark p)) ≡ true
mark_plain p = rw (phase_plain p) refl

step_plain : (e : Entry) → IsFormedEntry e → list_all (list_all is_plain) (entry_words e) ≡ true
step_plain (entry.Mark p) h = mark_plain p
step_plain (entry.Step _) of_module = refl
step_plain (entry.Step _) (of_part r w ns d f l p) = four (row_text r) w (path_text ns) [] (row_plain r) (lower_plain w l) (path_plain ns p.each) refl
step_plain (entry.Step _) (of_fold w ns a l p h) =
    let x = answer_word a h in
    four (row_text row.Fold) w (path_text ns) (answer_words (Some a)) refl (lower_plain w l) (path_plain ns p.each) (ap (list_all (list_all is_plain)) x.1.words ∙ rw x.1.plain refl)

-- ALL LINES

abbrev entries_tokens : List Entry → List LogToken
entries_tokens [] = []
entries_tokens (e ∷ es) = line_tokens (entry_words e) (entries_tokens es)

entry_split : (e : Entry) (bs : List ℕ) → list_all (list_all is_plain) (entry_words e) ≡ true → split_on true [] (line_text (entry_words e) ++ bs) ≡ line_tokens (entry_words e) (split_on true [] bs)
entry_split (entry.Mark p) bs h = line_split true (codes "mark") (phase_text p ∷ []) bs h
entry_split (entry.Step s) bs h = line_split true (codes "step") (row_text s.row ∷ def_text s.def ∷ place_text s.path ∷ answer_words s.answer) bs h

entries_split : (es : List Entry) → All IsFormedEntry es → split_on true [] (entries_text es) ≡ entries_tokens es
entries_split [] a = refl
entries_split (e ∷ es) a =
    entry_split e (entries_text es) (step_plain e (All-head IsFormedEntry e es a)) ∙ ap (line_tokens (entry_words e)) (entries_split es (All-tail IsFormedEntry e es a))

entries_read : (m : Word) (before es : List Entry) → All IsFormedEntry es → reads (AtLine m before) (entries_tokens es) ≡ Got (record { «module» = m; entries = before ++ es })
entries_read m before [] a = ap (λ xs. Got (record { «module» = m; entries = xs })) (sym (append-nil before))
entries_read m before (e ∷ es) a =
    step_read m before e (entries_tokens es) (All-head IsFormedEntry e es a)
    ∙ (entries_read m (before ++ e ∷ []) es (All-tail IsFormedEntry e es a) ∙ ap (λ xs. Got (record { «module» = m; entries = xs })) (append_assoc before (e ∷ []) es))

pub reads_back : ReadsBack
reads_back l h =
    let m = l.«module» in
    let plain : list_all (list_all is_plain) (codes "log" ∷ codes "1" ∷ m ∷ []) ≡ true = three (codes "log") (codes "1") m refl refl (module_is_plain m h.named) in
    ap (reads AtStart)
    (tokens_of_text (log_text l) ∙ (line_split true (codes "log") (codes "1" ∷ m ∷ []) (entries_text l.entries) plain ∙ ap (line_tokens (codes "log" ∷ codes "1" ∷ m ∷ [])) (entries_split l.entries h.entries)))
    ∙ (reads_on BehindOne (BehindModule m) (AWord m) (ALineEnd ∷ entries_tokens l.entries) (rw h.named refl) ∙ entries_read m [] l.entries h.entries)
