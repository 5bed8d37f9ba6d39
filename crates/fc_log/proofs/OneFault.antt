-- A text that spells a log has no fault, and every text has at most one first fault.
use Rattle.std.proofs.Common.{◌≡◌, ℕ, ◌+◌, Bool, true, false, List, [], ◌∷◌, ◌++◌, refl, sym, ap, ◌∙◌, arith, Option, Some, None, if◌then◌else◌}
use Rattle.std.specs.Prelude.{codes, option_map, ◌&&◌, ◌==◌}
use Rattle.std.specs.List.{list_all}
use Rattle.std.specs.Str.{bytes_eq}
use Rattle.std.proofs.lemmas.Bool.{and_parts, and_from}
use Rattle.std.proofs.lemmas.Bool.Decides.{nat_tests}
use Rattle.std.proofs.lemmas.List.Folds.{list_all-append}
use Rattle.fc_syntax.specs.Tokens.{is_in_range, is_lower_name, is_module_name, is_plain, literal_value}
use Rattle.fc_syntax.specs.declared.fault.Place.TheVariants as place
use Rattle.fc_log.specs.declared.log.Answer.{Answer}
use Rattle.fc_log.specs.declared.log.Answer.TheVariants as answer
use Rattle.fc_log.specs.declared.log.Log.{Log}
use Rattle.fc_log.specs.Grammar.{LogToken, AWord, ALineEnd, Stand, AtStart, BehindLog, BehindOne, BehindModule, AtLine, BehindMark, BehindStep, BehindRow, BehindDef, BehindPath, Got, answer_of, def_of, is_def_dead, is_path, is_written_literal, next, path_of, place_of, reads}
use Rattle.fc_log.specs.Laws.{NoFault, OneFirstFault}
use Rattle.fc_log.specs.Names.{phase_of, row_of}
use Rattle.fc_log.specs.Texts.{of_byte, of_form, bad_byte_from, is_log_byte}
use Rattle.fc_log.proofs.Clean.{literal_word_plain, path_word_plain, phase_word_plain, row_word_plain, same_plain}
use Rattle.fc_log.proofs.Lines.{split_on, tokens_of_text}
use Rattle.fc_log.proofs.OneMore.{reads_on}
use Rattle.fc_log.proofs.Plain.{lower_plain}
use Rattle.fc_printer.proofs.ModuleNames.{module_is_plain}

-- A WORD THAT STANDS IS PLAIN

if_word : {X : Type 0} (b : Bool) (x y : X) → (if b then Some x else None) ≡ Some y → b ≡ true
if_word true x y e = refl
if_word false x y e = absurd (cc)

given : {X Y : Type 0} (f : X → Y) (o : Option X) (y : Y) (P : Type 0) → option_map f o ≡ Some y → ((x : X) → o ≡ Some x → P) → P
given f None y P e k = absurd (cc)
given f (Some x) y P e k = k x refl

line_word : (p q : Bool) (a b u : Stand) (P : Type 0) → (if p then Some a else (if q then Some b else None)) ≡ Some u → (p ≡ true → P) → (q ≡ true → P) → P
line_word true q a b u P e k l = k refl
line_word false true a b u P e k l = l refl
line_word false false a b u P e k l = absurd (cc)

-- a dash or a word
dash_or : {X : Type 0} (p q s : Bool) (x y z : X) (P : Type 0) → (if p then (if q then Some x else None) else (if s then Some y else None)) ≡ Some z → (q ≡ true → P) → (s ≡ true → P) → P
dash_or true true s x y z P e k l = k refl
dash_or true false s x y z P e k l = absurd (cc)
dash_or false q true x y z P e k l = l refl
dash_or false q false x y z P e k l = absurd (cc)

answer_word : (w : List ℕ) (a : Answer) (p q r s : Bool) → bytes_eq w (codes "first") ≡ p → bytes_eq w (codes "second") ≡ q → is_written_literal w ≡ r
    → (if p then Some answer.First else if q then Some answer.Second else if r && s then Some (answer.Literal (literal_value w)) else None) ≡ Some a → list_all is_plain w ≡ true
answer_word w a true q r s f g h e = same_plain w (codes "first") f refl
answer_word w a false true r s f g h e = same_plain w (codes "second") g refl
answer_word w a false false true s f g h e = literal_word_plain w h
answer_word w a false false false s f g h e = absurd (cc)

word_plain : (s u : Stand) (w : List ℕ) → next s (AWord w) ≡ Some u → list_all is_plain w ≡ true
word_plain AtStart u w e = same_plain w (codes "log") (if_word (bytes_eq w (codes "log")) BehindLog u e) refl
word_plain BehindLog u w e = same_plain w (codes "1") (if_word (bytes_eq w (codes "1")) BehindOne u e) refl
word_plain BehindOne u w e = module_is_plain w (if_word (is_module_name w) (BehindModule w) u e)
word_plain (AtLine m es) u w e =
    line_word (bytes_eq w (codes "mark")) (bytes_eq w (codes "step")) (BehindMark m es) (BehindStep m es) u (list_all is_plain w ≡ true) e (λ k. same_plain w (codes "mark") k refl) (λ k. same_plain w (codes "step") k refl)
word_plain (BehindMark m es) u w e = given _ (phase_of w) u (list_all is_plain w ≡ true) e (phase_word_plain w)
word_plain (BehindStep m es) u w e = given _ (row_of w) u (list_all is_plain w ≡ true) e (row_word_plain w)
word_plain (BehindRow m es r) u w e =
    given _ (def_of r w) u (list_all is_plain w ≡ true) e
    (λ d f. dash_or (is_def_dead r) (bytes_eq w (codes "-")) (is_lower_name w) None (Some w) d (list_all is_plain w ≡ true) f (λ k. same_plain w (codes "-") k refl) (lower_plain w))
word_plain (BehindDef m es r d) u w e =
    given _ (place_of r w) u (list_all is_plain w ≡ true) e
    (λ p f. dash_or (is_def_dead r) (bytes_eq w (codes "-")) (is_path w) place.Nowhere (place.Parts (path_of w)) p (list_all is_plain w ≡ true) f (λ k. same_plain w (codes "-") k refl) (path_word_plain w))
word_plain (BehindPath m es d p) u w e =
    given _ (answer_of w) u (list_all is_plain w ≡ true) e
    (λ a f. answer_word w a (bytes_eq w (codes "first")) (bytes_eq w (codes "second")) (is_written_literal w) (is_in_range w) refl refl refl f)
word_plain s u w e = absurd (cc)

-- WHAT IS READ IS CLEAN

-- the first token was read
record Read (s : Stand) (t : LogToken) (ts : List LogToken) (l : Log) : Type 0 where
  behind : Stand
  taken : next s t ≡ Some behind
  rest : reads behind ts ≡ Got l

read_by : (s : Stand) (t : LogToken) (ts : List LogToken) (l : Log) (o : Option Stand) → next s t ≡ o → reads s (t ∷ ts) ≡ Got l → Read s t ts l
read_by s t ts l None q e = absurd (let k = rw (q, reads) at e in cc)
read_by s t ts l (Some u) q e = record { behind = u; taken = q; rest = sym (reads_on s u t ts q) ∙ e }

read_one : (s : Stand) (t : LogToken) (ts : List LogToken) (l : Log) → reads s (t ∷ ts) ≡ Got l → Read s t ts l
read_one s t ts l e = read_by s t ts l (next s t) refl e

-- the word so far is plain, and the bytes may stand in a log
abbrev IsClean : Log → List ℕ → Type 0
IsClean l bs = (w : List ℕ) (s : Stand) → reads s (split_on false w bs) ≡ Got l → (list_all is_plain w ≡ true) × (list_all is_log_byte bs ≡ true)

-- the same where a line begins
fresh_clean : (l : Log) (bs : List ℕ) (s : Stand) → IsClean l bs → reads s (split_on true [] bs) ≡ Got l → list_all is_log_byte bs ≡ true
fresh_clean l [] s k e = refl
fresh_clean l (b ∷ bs) s k e = (k [] s e).1

plain_log_byte : (b : ℕ) → is_plain b ≡ true → is_log_byte b ≡ true
plain_log_byte b h = grind (arith, nat_tests)

space_log_byte : (b : ℕ) → (b == 32) ≡ true → is_log_byte b ≡ true
space_log_byte b h = grind (arith, nat_tests)

line_feed_log_byte : (b : ℕ) → (b == 10) ≡ true → is_log_byte b ≡ true
line_feed_log_byte b h = grind (arith, nat_tests)

clean_step : (l : Log) (b : ℕ) (bs w : List ℕ) (s : Stand) (p q : Bool) → (b == 32) ≡ p → (b == 10) ≡ q → IsClean l bs
    → reads s (if p then AWord w ∷ split_on false [] bs else if q then AWord w ∷ ALineEnd ∷ split_on true [] bs else split_on false (w ++ b ∷ []) bs) ≡ Got l
    → (list_all is_plain w ≡ true) × (list_all is_log_byte (b ∷ bs) ≡ true)
clean_step l b bs w s true q f g k e =
    let r = read_one s (AWord w) (split_on false [] bs) l e in
    (word_plain s r.behind w r.taken, and_from (is_log_byte b) (list_all is_log_byte bs) (space_log_byte b f) (k [] r.behind r.rest).1)
clean_step l b bs w s false true f g k e =
    let r = read_one s (AWord w) (ALineEnd ∷ split_on true [] bs) l e in
    let x = read_one r.behind ALineEnd (split_on true [] bs) l r.rest in
    (word_plain s r.behind w r.taken, and_from (is_log_byte b) (list_all is_log_byte bs) (line_feed_log_byte b g) (fresh_clean l bs x.behind k x.rest))
clean_step l b bs w s false false f g k e =
    let h = k (w ++ b ∷ []) s e in
    let p = and_parts (list_all is_plain w) (is_plain b && true) (sym (list_all-append is_plain w (b ∷ [])) ∙ h.0) in
    (p.0, and_from (is_log_byte b) (list_all is_log_byte bs) (plain_log_byte b (and_parts (is_plain b) true p.1).0) h.1)

clean : (l : Log) (bs : List ℕ) → IsClean l bs
clean l [] w s e = let r = read_one s (AWord w) [] l e in (word_plain s r.behind w r.taken, refl)
clean l (b ∷ bs) w s e = clean_step l b bs w s (b == 32) (b == 10) refl refl (clean l bs) e

none_bad : (at : ℕ) (bs : List ℕ) → list_all is_log_byte bs ≡ true → bad_byte_from at bs ≡ None
none_bad at [] h = refl
none_bad at (b ∷ bs) h = let p = and_parts (is_log_byte b) (list_all is_log_byte bs) h in rw p.0 (none_bad (at + 1) bs p.1)

-- THE LAWS

pub no_fault : NoFault
no_fault bytes l _ e (of_byte b) =
    let c = fresh_clean l bytes AtStart (clean l bytes) (ap (reads AtStart) (sym (tokens_of_text bytes)) ∙ e) in
    let n = none_bad 0 bytes c in
    cc
no_fault bytes l _ e (of_form s left c q) = cc

pub one_first_fault : OneFirstFault
one_first_fault bytes _ _ (of_byte b) (of_byte c) = cc
one_first_fault bytes _ _ (of_byte b) (of_form s left c q) = absurd (cc)
one_first_fault bytes _ _ (of_form s left c q) (of_byte b) = absurd (cc)
one_first_fault bytes _ _ (of_form s left c q) (of_form t right d r) = let e : s ≡ t = cc in let f : left ≡ right = cc in rw (e, f) refl
