-- What tables and sets have after one word more is put in.
use Rattle.std.proofs.Common.{◌≡◌, refl, sym, ap, ◌∙◌, ℕ, List, Bool, true, false, ◌&&◌, ◌||◌, Option, Some, None, is_some, if◌then◌else◌}
use Rattle.std.proofs.lemmas.Bool.{and_parts}
use Rattle.std.specs.Str.{bytes_eq}
use Rattle.fc_syntax.specs.Tree.{Word}
use Rattle.fc_model.proofs.Sameness.{bytes_eq_eq}
use Rattle.fc_model.specs.Calling.{first_of}
use Rattle.fc_types.specs.Tables.{at, has_word}
use Rattle.fc_types.specs.declared.keys.WordKey.{WordKey}
use Rattle.fc_types.specs.contracts.keys.WordKeyPartialEq.TheImpl as of_keys
use Rattle.indexmap.specs.IndexMap.{IndexMap, Updates}
use Rattle.indexmap.specs.IndexSet.{IndexSet, Updates as UpdatesSet}
use denote.Ref.{Bor}

abbrev pub key_eq : WordKey → WordKey → Bool
key_eq = of_keys.eq-value.it

key_of : Word → Word → WordKey
key_of m w = record { «module» = record { ref_ptr = (0, 0); now = m }; word = record { ref_ptr = (0, 0); now = w } }

no_value : {V : Type 0} (o : Option V) → false ≡ is_some o → o ≡ None
no_value None e = refl
no_value (Some x) e = cc

abbrev pub text_eq : Bor (List ℕ) → Bor (List ℕ) → Bool
text_eq x y = bytes_eq x.now y.now

text_of : Word → Bor (List ℕ)
text_of w = record { ref_ptr = (0, 0); now = w }

either : (a b : Bool) → (if a then true else b) ≡ (a || b)
either true b = refl
either false b = refl

nothing_yet : {V : Type 0} (f : Word → Word → Option V) (n v m w : Word) → (bytes_eq n m && bytes_eq v w) ≡ true → false ≡ is_some (f n v) → f m w ≡ None
nothing_yet f n v m w same none =
    let p = and_parts (bytes_eq n m) (bytes_eq v w) same in
    rw (← bytes_eq_eq n m p.0, ← bytes_eq_eq v w p.1) (no_value (f n v) none)

put_over : {V : Type 0} (b : Bool) (o : Option V) (x : V) → (b ≡ true → o ≡ None) → (if b then Some x else o) ≡ first_of o (if b then Some x else None)
put_over true o x none = ap (λ p. first_of p (Some x)) (sym (none refl))
put_over false (Some y) x none = refl
put_over false None x none = refl

-- a value more, at a word that had none
pub put_new : {V S : Type 0} (old new : IndexMap WordKey V S) (k : WordKey) (n v : Word) (x : V) → k.module.now ≡ n → k.word.now ≡ v → false ≡ is_some (at old k.module.now k.word.now) → Updates key_eq old new k (Some x)
    → (m w : Word) → at new m w ≡ first_of (at old m w) (if bytes_eq n m && bytes_eq v w then Some x else None)
unfolding key_of
put_new old new k n v x same_module same_word none updates m w =
    rw (← same_module, ← same_word)
    (updates.0 (key_of m w) ∙ put_over (bytes_eq k.module.now m && bytes_eq k.word.now w) (at old m w) x (λ same. nothing_yet (at old) k.module.now k.word.now m w same none))

-- a word more
pub word_new : {S : Type 0} (old new : IndexSet (Bor (List ℕ)) S) (k : Bor (List ℕ)) (n : Word) → k.now ≡ n → UpdatesSet text_eq old new k true → (m : Word) → has_word new m ≡ (bytes_eq n m || has_word old m)
unfolding text_of
word_new old new k n same updates m = rw (← same) (updates.0 (text_of m) ∙ either (bytes_eq k.now m) (has_word old m))
