-- What the walk that collects used words promises: the second sets have what the first have, and the words that a piece uses.
use Rattle.std.specs.Prelude.{◌≡◌, ℕ, true, List, Option, Some, None}
use Rattle.fc_syntax.specs.declared.ty.Name.{Name}
use Rattle.fc_syntax.specs.Tree.{Word}
use Rattle.fc_model.specs.Nameless.{NTy, NCo, NCos, NBinder, NExpr, NArg, NArgs, NExprs, NBind, NBinds, NJoinBind, NJoins, NAlt, NAlts}
use Rattle.fc_model.specs.Resolution.{Locals, WordSet, Words}
use Rattle.fc_used_words.specs.Scoped.{Counts, HoldsTy, HoldsTys, HoldsCo, HoldsCos, HoldsBinder, HoldsBinders, HoldsExpr, HoldsArg, HoldsArgs, HoldsExprs, HoldsBind, HoldsBinds, HoldsJoin, HoldsJoins, HoldsAlt, HoldsAlts}
use Rattle.fc_used_words.specs.Standing.{AreWithin, Beyond, is_kept, outside}

-- a set has what another has, and the word at a distance, if that is beyond so many binders
pub record AddsAt (word : ℕ → Option Word) (many i : ℕ) (set more : WordSet) : Type 0 where
  pub kept : Beyond (λ j. (w : Word) → word j ≡ Some w → more w ≡ true) many i
  pub within : (w : Word) → set w ≡ true → more w ≡ true

-- the same of the word of a definition, if it is one of the module `own`
pub record AddsDefinition (own : Word) (n : Name) (set more : WordSet) : Type 0 where
  pub kept : outside own n.module ≡ None → more n.text ≡ true
  pub within : (w : Word) → set w ≡ true → more w ≡ true

pub record AddsTy (own : Word) (s : Locals) (k : Counts) (n : NTy) (ws more : Words) : Type 0 where
  pub kept : HoldsTy (is_kept own more s) k n
  pub within : AreWithin ws more

pub record AddsTys (own : Word) (s : Locals) (k : Counts) (n : List NTy) (ws more : Words) : Type 0 where
  pub kept : HoldsTys (is_kept own more s) k n
  pub within : AreWithin ws more

pub record AddsCo (own : Word) (s : Locals) (k : Counts) (n : NCo) (ws more : Words) : Type 0 where
  pub kept : HoldsCo (is_kept own more s) k n
  pub within : AreWithin ws more

pub record AddsCos (own : Word) (s : Locals) (k : Counts) (n : NCos) (ws more : Words) : Type 0 where
  pub kept : HoldsCos (is_kept own more s) k n
  pub within : AreWithin ws more

pub record AddsBinder (own : Word) (s : Locals) (k : Counts) (n : NBinder) (ws more : Words) : Type 0 where
  pub kept : HoldsBinder (is_kept own more s) k n
  pub within : AreWithin ws more

pub record AddsBinders (own : Word) (s : Locals) (k : Counts) (n : List NBinder) (ws more : Words) : Type 0 where
  pub kept : HoldsBinders (is_kept own more s) k n
  pub within : AreWithin ws more

pub record AddsExpr (own : Word) (s : Locals) (k : Counts) (n : NExpr) (ws more : Words) : Type 0 where
  pub kept : HoldsExpr (is_kept own more s) k n
  pub within : AreWithin ws more

pub record AddsArg (own : Word) (s : Locals) (k : Counts) (n : NArg) (ws more : Words) : Type 0 where
  pub kept : HoldsArg (is_kept own more s) k n
  pub within : AreWithin ws more

pub record AddsArgs (own : Word) (s : Locals) (k : Counts) (n : NArgs) (ws more : Words) : Type 0 where
  pub kept : HoldsArgs (is_kept own more s) k n
  pub within : AreWithin ws more

pub record AddsExprs (own : Word) (s : Locals) (k : Counts) (n : NExprs) (ws more : Words) : Type 0 where
  pub kept : HoldsExprs (is_kept own more s) k n
  pub within : AreWithin ws more

pub record AddsBind (own : Word) (s : Locals) (k : Counts) (n : NBind) (ws more : Words) : Type 0 where
  pub kept : HoldsBind (is_kept own more s) k n
  pub within : AreWithin ws more

pub record AddsBinds (own : Word) (s : Locals) (k : Counts) (n : NBinds) (ws more : Words) : Type 0 where
  pub kept : HoldsBinds (is_kept own more s) k n
  pub within : AreWithin ws more

pub record AddsJoin (own : Word) (s : Locals) (k : Counts) (n : NJoinBind) (ws more : Words) : Type 0 where
  pub kept : HoldsJoin (is_kept own more s) k n
  pub within : AreWithin ws more

pub record AddsJoins (own : Word) (s : Locals) (k : Counts) (n : NJoins) (ws more : Words) : Type 0 where
  pub kept : HoldsJoins (is_kept own more s) k n
  pub within : AreWithin ws more

pub record AddsAlt (own : Word) (s : Locals) (k : Counts) (n : NAlt) (ws more : Words) : Type 0 where
  pub kept : HoldsAlt (is_kept own more s) k n
  pub within : AreWithin ws more

pub record AddsAlts (own : Word) (s : Locals) (k : Counts) (n : NAlts) (ws more : Words) : Type 0 where
  pub kept : HoldsAlts (is_kept own more s) k n
  pub within : AreWithin ws more
