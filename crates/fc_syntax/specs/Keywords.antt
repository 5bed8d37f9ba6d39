-- How the words of the forms are written.
use Rattle.std.specs.Prelude.{ℕ, List, [], ◌∷◌, codes}
use Rattle.fc_syntax.specs.declared.keyword.Keyword.{Keyword}
use Rattle.fc_syntax.specs.declared.keyword.Keyword.TheVariants as word

abbrev pub keyword_text : Keyword → List ℕ
keyword_text word.Module = codes "module"
keyword_text word.Imports = codes "imports"
keyword_text word.Exports = codes "exports"
keyword_text word.Hidden = codes "hidden"
keyword_text word.Data = codes "data"
keyword_text word.NewType = codes "newtype"
keyword_text word.Family = codes "family"
keyword_text word.Axiom = codes "axiom"
keyword_text word.Def = codes "def"
keyword_text word.Wrap = codes "wrap"
keyword_text word.Type = codes "type"
keyword_text word.Co = codes "co"
keyword_text word.Forall = codes "forall"
keyword_text word.CoForall = codes "coforall"
keyword_text word.Fun = codes "fun"
keyword_text word.IntHash = codes "Int#"
keyword_text word.App = codes "app"
keyword_text word.Lam = codes "lam"
keyword_text word.Let = codes "let"
keyword_text word.LetRec = codes "letrec"
keyword_text word.Case = codes "case"
keyword_text word.Cast = codes "cast"
keyword_text word.Con = codes "con"
keyword_text word.Prim = codes "prim"
keyword_text word.Fail = codes "fail"
keyword_text word.Join = codes "join"
keyword_text word.JoinRec = codes "joinrec"
keyword_text word.Jump = codes "jump"
keyword_text word.Default = codes "default"
keyword_text word.Quot = codes "quotInt#"
keyword_text word.Rem = codes "remInt#"
keyword_text word.Refl = codes "refl"
keyword_text word.Sym = codes "sym"
keyword_text word.Trans = codes "trans"
keyword_text word.Tc = codes "tc"
keyword_text word.Capp = codes "capp"
keyword_text word.FunCo = codes "funco"
keyword_text word.AllCo = codes "allco"
keyword_text word.CoAllCo = codes "coallco"
keyword_text word.Inst = codes "inst"
keyword_text word.Nth = codes "nth"
keyword_text word.Left = codes "left"
keyword_text word.Right = codes "right"
keyword_text word.Sub = codes "sub"
keyword_text word.Ax = codes "ax"
keyword_text word.Univ = codes "univ"
keyword_text word.None = codes "none"
keyword_text word.Diverges = codes "diverges"

-- all of them
abbrev pub keywords : List Keyword
keywords =
    word.Module ∷ word.Imports ∷ word.Exports ∷ word.Hidden ∷ word.Data ∷ word.NewType ∷ word.Family ∷ word.Axiom ∷ word.Def ∷ word.Wrap ∷
    word.Type ∷ word.Co ∷ word.Forall ∷ word.CoForall ∷ word.Fun ∷ word.IntHash ∷ word.App ∷ word.Lam ∷ word.Let ∷ word.LetRec ∷
    word.Case ∷ word.Cast ∷ word.Con ∷ word.Prim ∷ word.Fail ∷ word.Join ∷ word.JoinRec ∷ word.Jump ∷ word.Default ∷ word.Quot ∷ word.Rem ∷
    word.Refl ∷ word.Sym ∷ word.Trans ∷ word.Tc ∷ word.Capp ∷ word.FunCo ∷ word.AllCo ∷ word.CoAllCo ∷ word.Inst ∷ word.Nth ∷ word.Left ∷
    word.Right ∷ word.Sub ∷ word.Ax ∷ word.Univ ∷ word.None ∷ word.Diverges ∷ []
