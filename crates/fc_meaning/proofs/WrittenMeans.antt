-- A set of modules that lints means the same as it is written: its modules declare and export the same, and only hide more words.
use Rattle.std.proofs.Common.{◌≡◌, true, if◌then◌else◌, bytes_eq, List, Option, Some, None, refl, sym, ap, subst}
use Rattle.std.specs.List.{list_any}
use Rattle.fc_syntax.specs.declared.ty.Name.{Name}
use Rattle.fc_syntax.specs.Tree.{Word}
use Rattle.fc_model.specs.Nameless.{NModule}
use Rattle.fc_model.specs.Observing.{Sees}
use Rattle.fc_model.specs.Programs.{AllMention, AltsMention, IsExported, IsMainExpression, Mentions, exports_at, exports_of_module, program_of, right_side}
use Rattle.fc_model.specs.Terms.{Term, Lit, Var, Global, Fail, App, Lam, Let, Rec, Case, Con, Prim, Terms, Nil, Cons, Alts, NoAlt, Alt}
use Rattle.fc_model.proofs.SetWritten.{HideMore, no_modules, one_module, same_declared, set_forms_hide}
use Rattle.fc_meaning.specs.Laws.{ShowsTheSame, WrittenMeansTheSame}

-- NAMES

-- a term whose names are of these names alone is of more
module _ (N M : Name → Type 0) (more : (x : Name) → N x → M x) where
  mutual
    pub mentions_more : (t : Term) → Mentions N t → Mentions M t
    mentions_more (Lit z) h = h
    mentions_more (Var n) h = h
    mentions_more (Global x) h = more x h
    mentions_more Fail h = h
    mentions_more (App s f a) h = (mentions_more f h.0, mentions_more a h.1)
    mentions_more (Lam s b) h = mentions_more b h
    mentions_more (Let s e b) h = (mentions_more e h.0, mentions_more b h.1)
    mentions_more (Rec ts b) h = (all_mention_more ts h.0, mentions_more b h.1)
    mentions_more (Case s e alts) h = (mentions_more e h.0, alts_mention_more alts h.1)
    mentions_more (Con c ss ts) h = all_mention_more ts h
    mentions_more (Prim o a b) h = (mentions_more a h.0, mentions_more b h.1)

    all_mention_more : (ts : Terms) → AllMention N ts → AllMention M ts
    all_mention_more Nil h = h
    all_mention_more (Cons t ts) h = (mentions_more t h.0, all_mention_more ts h.1)

    alts_mention_more : (alts : Alts) → AltsMention N alts → AltsMention M alts
    alts_mention_more NoAlt h = h
    alts_mention_more (Alt k b alts) h = (mentions_more b h.0, alts_mention_more alts h.1)

-- SETS THAT HIDE MORE

-- they make the same program
program_same : {ns ks : List NModule} → HideMore ns ks → program_of ns ≡ program_of ks
program_same hide i n = right_side (same_declared hide i n.module) n.text

-- and export the same
exports_of_module_same : {ns ks : List NModule} → HideMore ns ks → (w : Word) → exports_of_module ns w ≡ exports_of_module ks w
exports_of_module_same no_modules w = refl
exports_of_module_same (one_module {m = m} {exports = exports} more rest) w = ap (λ x. if bytes_eq m w then exports else x) (exports_of_module_same rest w)

exports_same : {ns ks : List NModule} → HideMore ns ks → (o : Option Word) → exports_at ns o ≡ exports_at ks o
exports_same hide None = refl
exports_same hide (Some w) = exports_of_module_same hide w

exported_same : {ns ks : List NModule} → HideMore ns ks → (n : Name) → IsExported ns n → IsExported ks n
exported_same hide n e =
    (subst (λ ws. list_any (λ w. bytes_eq w n.text) ws ≡ true) (exports_same hide n.module) e.0, e.1, subst (λ P. P n ≡ Some e.1) (program_same hide) e.2)

main_same : {ns ks : List NModule} → HideMore ns ks → (t : Term) → IsMainExpression ns t → IsMainExpression ks t
main_same {ns = ns} {ks = ks} hide t main =
    record { sorted = main.sorted; exported = mentions_more (IsExported ns) (IsExported ks) (exported_same hide) t main.exported }

shows_same : {ns ks : List NModule} → HideMore ns ks → (t : Term) → ShowsTheSame ns ks t
shows_same hide t o = (λ s. subst (λ P. Sees P t o) (program_same hide) s, λ s. subst (λ P. Sees P t o) (sym (program_same hide)) s)

-- WHAT IS WRITTEN

-- what may be asked of a set that lints may be asked of the set as it is written, and shows the same
pub written_means_the_same : WrittenMeansTheSame
written_means_the_same ms lints t main = let hide = set_forms_hide ms lints in (main_same hide t main, shows_same hide t)
