-- The definitions of a module that none of some words reaches.
use Rattle.std.specs.Prelude.{◌≡◌, ◌↔◌, Bool, true, false, not, List, map}
use Rattle.fc_syntax.specs.Tree.{Word}
use Rattle.fc_model.specs.Nameless.{NDecl, NData, NNew, NFamily, NAxiom, NDef, NWrap, NModule}
use Rattle.fc_model.specs.Planning.{is_among}
use Rattle.fc_reaching.specs.Reaching.{ReachesDefinition, decls_in}

-- a word is one of these roots, or the definition of one of them reaches it
pub data IsReachedFrom (m : NModule) (roots : List Word) : Word → Type 0 where
  as_root : (w : Word) → is_among roots w ≡ true → IsReachedFrom m roots w
  from_root : (v w : Word) → is_among roots v ≡ true → ReachesDefinition m v w → IsReachedFrom m roots w

-- a declaration is a definition of a word that does not pass a test
abbrev pub defines_other : (Word → Bool) → NDecl → Bool
defines_other test (NData n ps cs) = false
defines_other test (NNew n ps t con) = false
defines_other test (NFamily n ps k) = false
defines_other test (NAxiom n ps t u) = false
defines_other test (NDef n t e) = not (test n)
defines_other test (NWrap n t e) = not (test n)

-- for each declaration, in declared order, whether it is a definition that is not reached from these roots
pub record AreUnreached (m : NModule) (roots : List Word) (marks : List Bool) : Type 0 where
  pub is_reached : Word → Bool
  pub reached : (w : Word) → (is_reached w ≡ true) ↔ IsReachedFrom m roots w
  pub in_order : marks ≡ map (defines_other is_reached) (decls_in m)
