-- Pieces read back: demands and signatures, and their leaves.
use Rattle.std.proofs.Common.{◌≡◌, Bool, true, false, List, ◌∷◌, refl, ◌∙◌, codes}
use Rattle.std.proofs.lemmas.Bool.{and_parts}
use Rattle.fc_syntax.specs.Tree.{Word}
use Rattle.fc_syntax.specs.Demands.{Demand, Bottom, Absent, Product, Strict, Lazy, Demands, NoDemands, MoreDemands, Sig, SigOf}
use Rattle.fc_model.specs.Words.{Tok, Close, keyword_of}
use Rattle.fc_model.specs.Grammar.{Part, Given, Steps, ◌▸◌, Many, ADemand, ASignature, SignatureEnd, demands_from, more_demand}
use Rattle.fc_model.specs.Reading.{read_steps}
use Rattle.fc_model.specs.Pieces.{Pieces, NoPieces, pieces_toks}
use Rattle.fc_model.specs.Formed.{are_demands_formed, is_demand_formed, is_lower_word, is_sig_formed, is_upper_formed, is_upper_word}
use Rattle.fc_model.specs.InterfaceTexts.{demand_pieces, demands_pieces, divergence_pieces, sig_pieces}
use Rattle.fc_printer.proofs.Leaves.{upper_leaf}
use Rattle.fc_printer.proofs.Printed.{ArePrintable}
use Rattle.fc_printer.proofs.ReadKinds.{Begins, ReadsBack, goes_on, upper_back}

-- the word that a demand begins with, and that of a signature
abbrev first_word : Demand → Word
first_word Bottom = codes "B"
first_word Absent = codes "A"
first_word (Product k fields) = codes "P"
first_word Strict = codes "S"
first_word Lazy = codes "L"

first_leaf : (d : Demand) → is_upper_word (first_word d) ≡ true
unfolding keyword_of
first_leaf Bottom = refl
first_leaf Absent = refl
first_leaf (Product k fields) = refl
first_leaf Strict = refl
first_leaf Lazy = refl

sig_leaf : is_lower_word (codes "sig") ≡ true
unfolding keyword_of
sig_leaf = refl

-- leaves
mutual
  demand_leaves : (d : Demand) → is_demand_formed d ≡ true → (more : Pieces) → ArePrintable more → ArePrintable (demand_pieces d more)
  demand_leaves (Product k fields) h more m =
      let p = and_parts (is_upper_formed k) (are_demands_formed fields) h in
      ((first_leaf (Product k fields), (upper_leaf k p.0, demands_leaves fields p.1 NoPieces tt)), m)
  demand_leaves Bottom h more m = (first_leaf Bottom, m)
  demand_leaves Absent h more m = (first_leaf Absent, m)
  demand_leaves Strict h more m = (first_leaf Strict, m)
  demand_leaves Lazy h more m = (first_leaf Lazy, m)

  demands_leaves : (ds : Demands) → are_demands_formed ds ≡ true → (more : Pieces) → ArePrintable more → ArePrintable (demands_pieces ds more)
  demands_leaves NoDemands h more m = m
  demands_leaves (MoreDemands d ds) h more m =
      let p = and_parts (is_demand_formed d) (are_demands_formed ds) h in
      demand_leaves d p.0 (demands_pieces ds more) (demands_leaves ds p.1 more m)

divergence_leaves : (diverges : Bool) → ArePrintable (divergence_pieces diverges NoPieces)
divergence_leaves true = (refl, tt)
divergence_leaves false = tt

pub sig_leaves : (s : Sig) → is_sig_formed s ≡ true → (more : Pieces) → ArePrintable more → ArePrintable (sig_pieces s more)
sig_leaves (SigOf args diverges) h more m = ((sig_leaf, demands_leaves args h (divergence_pieces diverges NoPieces) (divergence_leaves diverges)), m)

-- demands
demand_begins : (d : Demand) (ps : Pieces) (rest : List Tok) → Begins (pieces_toks (demand_pieces d ps) rest)
demand_begins Bottom ps rest = tt
demand_begins d ps rest = tt

mutual
  demand_back : (d : Demand) → ReadsBack ADemand (demand_pieces d) d
  demand_back (Product k fields) ps rest q f =
      let more = pieces_toks ps rest in
      upper_back k (pieces_toks (demands_pieces fields NoPieces) (Close ∷ more)) q (λ k. Many ADemand ▸ λ ds. f (Product k (demands_from ds))) ∙ demands_back fields more q (λ ds. f (Product k ds))
  demand_back Bottom ps rest q f = refl
  demand_back Absent ps rest q f = refl
  demand_back Strict ps rest q f = refl
  demand_back Lazy ps rest q f = refl

  demands_back : (xs : Demands) (rest : List Tok) (q : Part) (f : Demands → Steps (Given q))
      → read_steps (pieces_toks (demands_pieces xs NoPieces) (Close ∷ rest)) (Many ADemand ▸ λ ys. f (demands_from ys)) ≡ read_steps rest (f xs)
  demands_back NoDemands rest q f = refl
  demands_back (MoreDemands x xs) rest q f =
      goes_on (pieces_toks (demands_pieces (MoreDemands x xs) NoPieces) (Close ∷ rest)) (demand_begins x (demands_pieces xs NoPieces) (Close ∷ rest)) ADemand q (λ ys. f (demands_from ys))
      ∙ demand_back x (demands_pieces xs NoPieces) (Close ∷ rest) q (λ y. Many ADemand ▸ λ ys. f (MoreDemands y (demands_from ys))) ∙ demands_back xs rest q (λ ys. f (MoreDemands x ys))

-- signatures
next_demand_is : (d : Demand) (ps : Pieces) (rest : List Tok) (q : Part) (f : Sig → Steps (Given q))
    → read_steps (pieces_toks (demand_pieces d ps) rest) (SignatureEnd ▸ f) ≡ read_steps (pieces_toks (demand_pieces d ps) rest) (ADemand ▸ λ d. SignatureEnd ▸ λ s. f (more_demand d s))
next_demand_is Bottom ps rest q f = refl
next_demand_is d ps rest q f = refl

signature_end_back : (ds : Demands) (diverges : Bool) (rest : List Tok) (q : Part) (f : Sig → Steps (Given q))
    → read_steps (pieces_toks (demands_pieces ds (divergence_pieces diverges NoPieces)) (Close ∷ rest)) (SignatureEnd ▸ f) ≡ read_steps rest (f (SigOf ds diverges))
signature_end_back NoDemands true rest q f = refl
signature_end_back NoDemands false rest q f = refl
signature_end_back (MoreDemands d ds) diverges rest q f =
    let more = demands_pieces ds (divergence_pieces diverges NoPieces) in
    next_demand_is d more (Close ∷ rest) q f ∙ demand_back d more (Close ∷ rest) q (λ d. SignatureEnd ▸ λ s. f (more_demand d s)) ∙ signature_end_back ds diverges rest q (λ s. f (more_demand d s))

pub sig_back : (s : Sig) → ReadsBack ASignature (sig_pieces s) s
sig_back (SigOf ds diverges) ps rest q f = signature_end_back ds diverges (pieces_toks ps rest) q f
