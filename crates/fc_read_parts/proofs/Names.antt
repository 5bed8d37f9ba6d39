-- What a word is by the first question that settles it: a word of a form, a name without a dot, or any other word.
use Rattle.std.proofs.Common.{◌≡◌, ℕ, Bool, true, false, List, [], ◌∷◌, refl, sym, ◌∙◌, ap, arith, Option, Some, None, if◌then◌else◌}
use Rattle.std.specs.Prelude.{◌==◌, ◌||◌, not}
use Rattle.std.specs.List.{list_all, list_any}
use Rattle.std.specs.Str.{bytes_eq}
use Rattle.std.proofs.lemmas.Bool.{and_parts, true≢false}
use Rattle.std.proofs.lemmas.Bool.Decides.{nat_tests}
use Rattle.std.proofs.lemmas.Slice.Eq.{bytes_eq-Decides}
use Rattle.fc_syntax.specs.declared.keyword.Keyword.{Keyword}
use Rattle.fc_syntax.specs.Keywords.{keyword_text, keywords}
use Rattle.fc_syntax.specs.Tokens.{is_dot, is_lower_name, is_upper_name, is_plain_name, starts_names}
use Rattle.fc_syntax.proofs.NameWords.{name_parts, undotted}
use Rattle.fc_model.specs.Words.{Key, Lower, Upper, keyword_among, keyword_of, sign_tok, undotted_tok, word_tok}

-- what is found among words without a dot has none
some_step : (b : Bool) (k l : Keyword) (ks : List Keyword) (w : List ℕ) → bytes_eq w (keyword_text l) ≡ b → list_any is_dot (keyword_text l) ≡ false
    → (keyword_among ks w ≡ Some k → list_any is_dot w ≡ false) → (if b then Some l else keyword_among ks w) ≡ Some k → list_any is_dot w ≡ false
some_step true k l ks w e d h f = ap (list_any is_dot) ((bytes_eq-Decides w (keyword_text l)).0 e) ∙ d
some_step false k l ks w e d h f = h f

abbrev has_no_dot : Keyword → Bool
has_no_dot k = not (list_any is_dot (keyword_text k))

not_true : (b : Bool) → not b ≡ true → b ≡ false
not_true true h = absurd (true≢false (sym h))
not_true false h = refl

among_undotted : (ks : List Keyword) (w : List ℕ) (k : Keyword) → list_all has_no_dot ks ≡ true → keyword_among ks w ≡ Some k → list_any is_dot w ≡ false
among_undotted [] w k a f = absurd (cc)
among_undotted (l ∷ ls) w k a f =
    let parts = and_parts (has_no_dot l) (list_all has_no_dot ls) a in
    some_step (bytes_eq w (keyword_text l)) k l ls w refl (not_true (list_any is_dot (keyword_text l)) parts.0) (among_undotted ls w k parts.1) f

keyword_undotted : (w : List ℕ) (k : Keyword) → keyword_of w ≡ Some k → list_any is_dot w ≡ false
unfolding keyword_of
keyword_undotted w k f = among_undotted keywords w k refl f

-- a word without a dot
pub word_tok_undotted : (w : List ℕ) (o : Option Keyword) → keyword_of w ≡ o → list_any is_dot w ≡ false → word_tok w ≡ undotted_tok o w
word_tok_undotted w o e d = rw (d, e) refl

pub keyword_tok : (w : List ℕ) (k : Keyword) → keyword_of w ≡ Some k → word_tok w ≡ Key k
keyword_tok w k e = word_tok_undotted w (Some k) e (keyword_undotted w k e)

-- no sign starts as a name does
pub start_is_not : (n b : ℕ) (bs cs : List ℕ) → (b == n) ≡ false → bytes_eq (b ∷ bs) (n ∷ cs) ≡ false
start_is_not n b bs cs e = rw e refl

name_no_sign : (b : ℕ) (bs : List ℕ) → starts_names b ≡ true → sign_tok (b ∷ bs) ≡ None
unfolding sign_tok
name_no_sign b bs s =
    let star : (b == 42) ≡ false = grind (arith, nat_tests) in
    let hash : (b == 35) ≡ false = grind (arith, nat_tests) in
    let minus : (b == 45) ≡ false = grind (arith, nat_tests) in
    let plus : (b == 43) ≡ false = grind (arith, nat_tests) in
    let equal : (b == 61) ≡ false = grind (arith, nat_tests) in
    let slash : (b == 47) ≡ false = grind (arith, nat_tests) in
    let less : (b == 60) ≡ false = grind (arith, nat_tests) in
    let more : (b == 62) ≡ false = grind (arith, nat_tests) in
    simp (star, hash, minus, plus, equal, slash, less, more) refl

plain_no_sign : (w : List ℕ) → is_plain_name w ≡ true → sign_tok w ≡ None
plain_no_sign [] p = absurd (true≢false (sym p))
plain_no_sign (b ∷ bs) p = name_no_sign b bs (name_parts b bs p).start

plain_undotted : (w : List ℕ) → is_plain_name w ≡ true → list_any is_dot w ≡ false
plain_undotted [] p = absurd (true≢false (sym p))
plain_undotted (b ∷ bs) p = undotted b bs p

lower_plain : (w : List ℕ) → is_lower_name w ≡ true → is_plain_name w ≡ true
lower_plain w h = rw h refl

upper_plain : (p q : Bool) → q ≡ true → (p || q) ≡ true
upper_plain true q h = refl
upper_plain false q h = h

pub lower_tok : (w : List ℕ) → keyword_of w ≡ None → is_lower_name w ≡ true → word_tok w ≡ Lower w
lower_tok w e l =
    let p = lower_plain w l in
    word_tok_undotted w None e (plain_undotted w p) ∙ rw (plain_no_sign w p, l) refl

pub upper_tok : (w : List ℕ) → keyword_of w ≡ None → is_lower_name w ≡ false → is_upper_name w ≡ true → word_tok w ≡ Upper w
upper_tok w e l u =
    let p : is_plain_name w ≡ true = upper_plain (is_lower_name w) (is_upper_name w) u in
    word_tok_undotted w None e (plain_undotted w p) ∙ rw (plain_no_sign w p, l, u) refl

pub ruleset name_rules = (lower_tok, upper_tok)
