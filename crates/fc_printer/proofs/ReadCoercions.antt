-- Pieces read back: coercions and binders.
use Rattle.std.proofs.Common.{◌≡◌, true, false, List, [], ◌∷◌, refl, sym, ◌∙◌}
use Rattle.std.specs.Prelude.{◌&&◌, ◌^◌, nat_lt}
use Rattle.std.specs.List.{list_all}
use Rattle.std.proofs.lemmas.Bool.{and_parts, true≢false}
use Rattle.fc_syntax.specs.declared.ty.Role.{Role}
use Rattle.fc_syntax.specs.declared.ty.Name.{Name}
use Rattle.fc_syntax.specs.Tree.{Word, Ty, Co, GVar, GRefl, GSym, GTrans, GTc, GCapp, GFun, GAll, GCoAll, GInst, GNth, GLeft, GRight, GSub, GAx, GUniv, Cos, NoCos, MoreCos, Binder, BValue, BType, BCo}
use Rattle.fc_model.specs.Words.{Tok, Close}
use Rattle.fc_model.specs.Grammar.{Part, Given, Steps, ◌▸◌, Many, Several, AClose, AnUpperName, AType, AnEqualityRole, ACoercion, ABinder, cos_from}
use Rattle.fc_model.specs.Reading.{read_steps}
use Rattle.fc_model.specs.Pieces.{Pieces, NoPieces, pieces_toks}
use Rattle.fc_model.specs.Spelling.{Alone, type_pieces, co_pieces, cos_pieces, binder_pieces, binders_pieces, role_tok, upper_tok}
use Rattle.fc_model.specs.Formed.{are_cos_formed, is_binder_formed, is_co_formed, is_equality_role, is_lower_word, is_type_formed, is_upper_formed}
use Rattle.fc_printer.proofs.ReadKinds.{Begins, ReadsBack, equality_role_back, goes_on, kind_back, role_back, several_is, type_back, upper_back}

co_begins : (g : Co) (ps : Pieces) (rest : List Tok) → Begins (pieces_toks (co_pieces g ps) rest)
co_begins (GVar c) ps rest = tt
co_begins g ps rest = tt

-- two parts of a form
two_back : (g h : Co) → ReadsBack ACoercion (co_pieces g) g → ReadsBack ACoercion (co_pieces h) h → (rest : List Tok) (q : Part) (f : Co → Co → Steps (Given q))
    → read_steps (pieces_toks (co_pieces g (co_pieces h NoPieces)) (Close ∷ rest)) (ACoercion ▸ λ g. ACoercion ▸ λ h. AClose ▸ λ _. f g h) ≡ read_steps rest (f g h)
two_back g h b c rest q f = b (co_pieces h NoPieces) (Close ∷ rest) q (λ g. ACoercion ▸ λ h. AClose ▸ λ _. f g h) ∙ c NoPieces (Close ∷ rest) q (λ h. AClose ▸ λ _. f g h)

abbrev CosBack : Cos → Type 0
CosBack gs = (rest : List Tok) (q : Part) (f : Cos → Steps (Given q)) → read_steps (pieces_toks (cos_pieces gs NoPieces) (Close ∷ rest)) (Many ACoercion ▸ λ xs. f (cos_from xs)) ≡ read_steps rest (f gs)

tc_back : (r : Role) (n : Name) (g : Co) (gs : Cos) → is_equality_role r ≡ true → ReadsBack ACoercion (co_pieces g) g → CosBack gs → ReadsBack ACoercion (co_pieces (GTc r n (MoreCos g gs))) (GTc r n (MoreCos g gs))
tc_back r n g gs h b c ps rest q f =
    let more = pieces_toks ps rest in
    let ts = pieces_toks (cos_pieces (MoreCos g gs) NoPieces) (Close ∷ more) in
    equality_role_back r h (upper_tok n ∷ ts) q (λ r. AnUpperName ▸ λ n. Several ACoercion ▸ λ gs. f (GTc r n (cos_from gs)))
    ∙ upper_back n ts q (λ n. Several ACoercion ▸ λ gs. f (GTc r n (cos_from gs)))
    ∙ several_is ACoercion q ts (λ gs. f (GTc r n (cos_from gs)))
    ∙ b (cos_pieces gs NoPieces) (Close ∷ more) q (λ x. Many ACoercion ▸ λ xs. f (GTc r n (MoreCos x (cos_from xs)))) ∙ c more q (λ xs. f (GTc r n (MoreCos g xs)))

coall_back : (r s : Role) (g h k : Co) → (is_equality_role r && is_equality_role s) ≡ true → ReadsBack ACoercion (co_pieces g) g → ReadsBack ACoercion (co_pieces h) h → ReadsBack ACoercion (co_pieces k) k
    → ReadsBack ACoercion (co_pieces (GCoAll r s g h k)) (GCoAll r s g h k)
coall_back r s g h k e b c d ps rest q f =
    let roles = and_parts (is_equality_role r) (is_equality_role s) e in
    let more = Close ∷ pieces_toks ps rest in
    let ts = pieces_toks (co_pieces g (co_pieces h (co_pieces k NoPieces))) more in
    equality_role_back r roles.0 (role_tok s ∷ ts) q (λ r. AnEqualityRole ▸ λ s. ACoercion ▸ λ g. ACoercion ▸ λ h. ACoercion ▸ λ k. AClose ▸ λ _. f (GCoAll r s g h k))
    ∙ equality_role_back s roles.1 ts q (λ s. ACoercion ▸ λ g. ACoercion ▸ λ h. ACoercion ▸ λ k. AClose ▸ λ _. f (GCoAll r s g h k))
    ∙ b (co_pieces h (co_pieces k NoPieces)) more q (λ g. ACoercion ▸ λ h. ACoercion ▸ λ k. AClose ▸ λ _. f (GCoAll r s g h k))
    ∙ two_back h k c d (pieces_toks ps rest) q (λ h k. f (GCoAll r s g h k))

mutual
  pub co_back : (g : Co) → is_co_formed g ≡ true → ReadsBack ACoercion (co_pieces g) g
  co_back (GVar c) e ps rest q f = refl
  co_back (GRefl r t) e ps rest q f =
      let more = Close ∷ pieces_toks ps rest in
      role_back r (pieces_toks (type_pieces Alone t NoPieces) more) q (λ r. AType ▸ λ t. AClose ▸ λ _. f (GRefl r t)) ∙ type_back t e NoPieces more q (λ t. AClose ▸ λ _. f (GRefl r t))
  co_back (GSym g) e ps rest q f = co_back g e NoPieces (Close ∷ pieces_toks ps rest) q (λ g. AClose ▸ λ _. f (GSym g))
  co_back (GTrans g h) e ps rest q f = let p = and_parts (is_co_formed g) (is_co_formed h) e in two_back g h (co_back g p.0) (co_back h p.1) (pieces_toks ps rest) q (λ g h. f (GTrans g h))
  co_back (GTc r n NoCos) e ps rest q f = absurd (true≢false (sym (and_parts (is_upper_formed n) false (and_parts (is_equality_role r) (is_upper_formed n && false) e).1).1))
  co_back (GTc r n (MoreCos g gs)) e ps rest q f =
      let p = and_parts (is_equality_role r) (is_upper_formed n && (true && (is_co_formed g && are_cos_formed gs))) e in
      let p' = and_parts (is_upper_formed n) (is_co_formed g && are_cos_formed gs) p.1 in
      let p'' = and_parts (is_co_formed g) (are_cos_formed gs) p'.1 in
      tc_back r n g gs p.0 (co_back g p''.0) (cos_back gs p''.1) ps rest q f
  co_back (GCapp g h) e ps rest q f = let p = and_parts (is_co_formed g) (is_co_formed h) e in two_back g h (co_back g p.0) (co_back h p.1) (pieces_toks ps rest) q (λ g h. f (GCapp g h))
  co_back (GFun g h) e ps rest q f = let p = and_parts (is_co_formed g) (is_co_formed h) e in two_back g h (co_back g p.0) (co_back h p.1) (pieces_toks ps rest) q (λ g h. f (GFun g h))
  co_back (GAll a k g) e ps rest q f =
      let p = and_parts (is_lower_word a) (is_co_formed g) e in
      let more = Close ∷ pieces_toks ps rest in
      kind_back k NoPieces (Close ∷ pieces_toks (co_pieces g NoPieces) more) q (λ k. AClose ▸ λ _. ACoercion ▸ λ g. AClose ▸ λ _. f (GAll a k g)) ∙ co_back g p.1 NoPieces more q (λ g. AClose ▸ λ _. f (GAll a k g))
  co_back (GCoAll r s g h k) e ps rest q f =
      let p = and_parts (is_equality_role r && is_equality_role s) (is_co_formed g && (is_co_formed h && is_co_formed k)) e in
      let p' = and_parts (is_co_formed g) (is_co_formed h && is_co_formed k) p.1 in
      let p'' = and_parts (is_co_formed h) (is_co_formed k) p'.1 in
      coall_back r s g h k p.0 (co_back g p'.0) (co_back h p''.0) (co_back k p''.1) ps rest q f
  co_back (GInst g h) e ps rest q f = let p = and_parts (is_co_formed g) (is_co_formed h) e in two_back g h (co_back g p.0) (co_back h p.1) (pieces_toks ps rest) q (λ g h. f (GInst g h))
  co_back (GNth n g) e ps rest q f = co_back g (and_parts (nat_lt n (10 ^ 9)) (is_co_formed g) e).1 NoPieces (Close ∷ pieces_toks ps rest) q (λ g. AClose ▸ λ _. f (GNth n g))
  co_back (GLeft g) e ps rest q f = co_back g e NoPieces (Close ∷ pieces_toks ps rest) q (λ g. AClose ▸ λ _. f (GLeft g))
  co_back (GRight g) e ps rest q f = co_back g e NoPieces (Close ∷ pieces_toks ps rest) q (λ g. AClose ▸ λ _. f (GRight g))
  co_back (GSub g) e ps rest q f = co_back g e NoPieces (Close ∷ pieces_toks ps rest) q (λ g. AClose ▸ λ _. f (GSub g))
  co_back (GAx n gs) e ps rest q f =
      let p = and_parts (is_upper_formed n) (are_cos_formed gs) e in
      let more = pieces_toks ps rest in
      upper_back n (pieces_toks (cos_pieces gs NoPieces) (Close ∷ more)) q (λ n. Many ACoercion ▸ λ gs. f (GAx n (cos_from gs))) ∙ cos_back gs p.1 more q (λ gs. f (GAx n gs))
  co_back (GUniv t u) e ps rest q f =
      let p = and_parts (is_type_formed t) (is_type_formed u) e in
      let more = Close ∷ pieces_toks ps rest in
      type_back t p.0 (type_pieces Alone u NoPieces) more q (λ t. AType ▸ λ u. AClose ▸ λ _. f (GUniv t u)) ∙ type_back u p.1 NoPieces more q (λ u. AClose ▸ λ _. f (GUniv t u))

  cos_back : (gs : Cos) → are_cos_formed gs ≡ true → CosBack gs
  cos_back NoCos e rest q f = refl
  cos_back (MoreCos g gs) e rest q f =
      let p = and_parts (is_co_formed g) (are_cos_formed gs) e in
      goes_on (pieces_toks (cos_pieces (MoreCos g gs) NoPieces) (Close ∷ rest)) (co_begins g (cos_pieces gs NoPieces) (Close ∷ rest)) ACoercion q (λ xs. f (cos_from xs))
      ∙ co_back g p.0 (cos_pieces gs NoPieces) (Close ∷ rest) q (λ x. Many ACoercion ▸ λ xs. f (MoreCos x (cos_from xs))) ∙ cos_back gs p.1 rest q (λ gs. f (MoreCos g gs))

-- binders
pub co_binder_back : (c : Word) (r : Role) (t u : Ty) → (is_equality_role r && (is_type_formed t && is_type_formed u)) ≡ true → (rest : List Tok) (q : Part) (f : Role → Ty → Ty → Steps (Given q))
    → read_steps (role_tok r ∷ pieces_toks (type_pieces Alone t (type_pieces Alone u NoPieces)) (Close ∷ rest)) (AnEqualityRole ▸ λ r. AType ▸ λ t. AType ▸ λ u. AClose ▸ λ _. f r t u) ≡ read_steps rest (f r t u)
co_binder_back c r t u e rest q f =
    let p = and_parts (is_equality_role r) (is_type_formed t && is_type_formed u) e in
    let p' = and_parts (is_type_formed t) (is_type_formed u) p.1 in
    equality_role_back r p.0 (pieces_toks (type_pieces Alone t (type_pieces Alone u NoPieces)) (Close ∷ rest)) q (λ r. AType ▸ λ t. AType ▸ λ u. AClose ▸ λ _. f r t u)
    ∙ type_back t p'.0 (type_pieces Alone u NoPieces) (Close ∷ rest) q (λ t. AType ▸ λ u. AClose ▸ λ _. f r t u) ∙ type_back u p'.1 NoPieces (Close ∷ rest) q (λ u. AClose ▸ λ _. f r t u)

pub binder_back : (b : Binder) → is_binder_formed b ≡ true → ReadsBack ABinder (binder_pieces b) b
binder_back (BValue x t) e ps rest q f = type_back t (and_parts (is_lower_word x) (is_type_formed t) e).1 NoPieces (Close ∷ pieces_toks ps rest) q (λ t. AClose ▸ λ _. f (BValue x t))
binder_back (BType a k) e ps rest q f = kind_back k NoPieces (Close ∷ pieces_toks ps rest) q (λ k. AClose ▸ λ _. f (BType a k))
binder_back (BCo c r t u) e ps rest q f =
    co_binder_back c r t u (and_parts (is_lower_word c) (is_equality_role r && (is_type_formed t && is_type_formed u)) e).1 (pieces_toks ps rest) q (λ r t u. f (BCo c r t u))

pub binder_begins : (b : Binder) (ps : Pieces) (rest : List Tok) → Begins (pieces_toks (binder_pieces b ps) rest)
binder_begins (BValue x t) ps rest = tt
binder_begins b ps rest = tt

pub binders_back : (bs : List Binder) → list_all is_binder_formed bs ≡ true → (rest : List Tok) (q : Part) (f : List Binder → Steps (Given q))
    → read_steps (pieces_toks (binders_pieces bs NoPieces) (Close ∷ rest)) (Many ABinder ▸ f) ≡ read_steps rest (f bs)
binders_back [] h rest q f = refl
binders_back (b ∷ bs) h rest q f =
    let g = and_parts (is_binder_formed b) (list_all is_binder_formed bs) h in
    goes_on (pieces_toks (binders_pieces (b ∷ bs) NoPieces) (Close ∷ rest)) (binder_begins b (binders_pieces bs NoPieces) (Close ∷ rest)) ABinder q f
    ∙ binder_back b g.0 (binders_pieces bs NoPieces) (Close ∷ rest) q (λ x. Many ABinder ▸ λ xs. f (x ∷ xs)) ∙ binders_back bs g.1 rest q (λ xs. f (b ∷ xs))
