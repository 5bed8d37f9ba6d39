-- What clap's getters give, in the words of the definitions.
use Rattle.std.proofs.Common.{◌≡◌, ◌∙◌, sym, arith, length, MatchOption, ℕ, List, [], ◌∷◌, Option, Some, None, ap, map, option_map, refl}
use Rattle.std.specs.Option.{unwrap_or, option_map_or}
use Rattle.std.specs.List.{find}
use Rattle.std.specs.Str.{bytes_eq}
use Rattle.std.specs.Borrow.{Bor}
use Rattle.clap.specs.Walk.{Row, rows_of}
use Rattle.clap.specs.Matches.{first_value, matched_of, raw_values}
use Rattle.clap.specs.declared.parser.matches.Found.{Found}
use Rattle.clap.proofs.WalkLemmas.{first_value-rows, raw_values-rows}
use Rattle.fc_words.specs.Asking.{text_in, values_in}

now_or : (r : Option (Bor (List ℕ))) (given : Bor (List ℕ)) → given.now ≡ [] → (unwrap_or r given).now ≡ unwrap_or (option_map (λ s. s.now) r) []
now_or None given none = none
now_or (Some s) given none = refl

-- what `get_str` gives, or the empty text
pub text_read : (r : Option (Bor (List ℕ))) (given : Bor (List ℕ)) (f : Found) (id : List ℕ) → option_map (λ s. s.now) r ≡ first_value f id → given.now ≡ []
    → (unwrap_or r given).now ≡ text_in id (rows_of f)
text_read r given f id e none = now_or r given none ∙ ap (λ o. unwrap_or o []) (e ∙ first_value-rows f id)

all_or_none : (o : Option Row) → unwrap_or (option_map (λ r. r.values) o) [] ≡ option_map_or (λ r. r.values) o []
all_or_none None = refl
all_or_none (Some r) = refl

-- what `get_strs` gives, or no value
pub values_read : (r : Option (Bor (List (Bor (List ℕ))))) (f : Found) (id : List ℕ) → option_map (λ s. map (λ v. v.now) s.now) r ≡ option_map raw_values (matched_of f id)
    → unwrap_or (option_map (λ s. map (λ v. v.now) s.now) r) [] ≡ values_in id (rows_of f)
values_read r f id e = ap (λ o. unwrap_or o []) (e ∙ raw_values-rows f id) ∙ all_or_none (find (λ r. bytes_eq r.id id) (rows_of f))

pub none_read : (f : Found) (id : List ℕ) → None ≡ option_map raw_values (matched_of f id) → values_in id (rows_of f) ≡ []
none_read f id e = sym (values_read None f id e)

pub some_read : (s : Bor (List (Bor (List ℕ)))) (f : Found) (id : List ℕ) → Some (map (λ v. v.now) s.now) ≡ option_map raw_values (matched_of f id)
    → values_in id (rows_of f) ≡ map (λ v. v.now) s.now
some_read s f id e = sym (values_read (Some s) f id e)

-- nothing is left where nothing was given
pub none_kept : {X : Type 0} (r : Option X) (P : Type 0) (Q : X → Type 0) → r ≡ None → P → MatchOption r P Q
none_kept None P Q e p = p
none_kept (Some x) P Q e p = cc

pub no_texts : (vs : List (Bor (List ℕ))) → length vs ≡ 0 → map (λ (v : Bor (List ℕ)). v.now) vs ≡ []
no_texts [] e = refl
no_texts (v ∷ vs) e = absurd (omega arith)
