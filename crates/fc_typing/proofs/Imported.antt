-- What words mean in a module of a set where every other module of the set is imported.
use Rattle.std.proofs.Common.{◌≡◌, ◌∙◌, ℕ, List, Some, map, option_map, slice_get, sym, ap}
use Rattle.std.proofs.lemmas.Option.{slice_get-map}
use Rattle.fc_model.proofs.Declares.{bare_top}
use Rattle.fc_model.specs.DeclaredWords.{top_by}
use Rattle.fc_model.specs.Resolution.{Top, WordSet as Words, ntop_of}
use Rattle.fc_model.specs.WordSets.{set_of}
use Rattle.fc_model.specs.Worded.{WModule, bare_module}
use Rattle.fc_model.specs.declared.declared.Declared.{Declared}
use Rattle.fc_model.specs.declared.word_set.WordSet.{WordSet}
use Rattle.fc_model.specs.Resolution.{top_of}

-- the same with other imports
pub imported : (d : Declared) (names : WordSet) (m : WModule) (all : Words) → top_by d ≡ top_of m → set_of names ≡ all
    → top_by (record { own = d.own; imports = names; offers = d.offers; spaces = d.spaces }) ≡ record (ntop_of (bare_module m)) { imports = all }
imported d names m all same has =
    ap (λ (t : Top). record t { imports = set_of names }) same
    ∙ ap (λ (t : Top). record t { imports = set_of names }) (sym (bare_top m))
    ∙ ap (λ (s : Words). record (ntop_of (bare_module m)) { imports = s }) has

some_some : {X : Type 0} (x y : X) → Some x ≡ Some y → x ≡ y
some_some x y h = cc

-- what stands at a place of the views is the view of what stands there
pub view_there : {X Y : Type 0} (view : X → Y) (xs : List X) (i : ℕ) (x : X) (y : Y) → slice_get xs i ≡ Some x → slice_get (map view xs) i ≡ Some y → view x ≡ y
view_there view xs i x y here there = some_some (view x) y (sym (slice_get-map view xs i ∙ ap (option_map view) here) ∙ there)
