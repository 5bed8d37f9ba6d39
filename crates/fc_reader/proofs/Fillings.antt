-- Each part of the grammar has a text.
use Rattle.std.proofs.Common.{◌≡◌, ◌==◌, eq-eqb, codes, suc, length, Bool, true, false, Some, None, if◌then◌else◌, pos, List, [], ◌∷◌, ◌++◌, refl, sym, ap, ◌∙◌, append_assoc}
use Rattle.fc_syntax.specs.declared.expr.PrimOp.TheVariants as op
use Rattle.std.specs.Str.{bytes_eq}
use Rattle.std.proofs.lemmas.Bool.{true≢false}
use Rattle.std.proofs.lemmas.Slice.Eq.{bytes_eq-Decides}
use Rattle.fc_syntax.specs.declared.keyword.Keyword.TheVariants as word
use Rattle.fc_syntax.specs.Keywords.{keyword_text}
use Rattle.fc_model.specs.Words.{Tok, Open, Close, Key, Lower, Upper, Star, Arrow, Operator, Literal, Number}
use Rattle.fc_model.specs.Grammar.{Part, Given, Steps, gives, ◌▸◌, and_then, here}
use Rattle.fc_model.specs.Grammar.{AnOpen, AClose, AWord, ALower, AnUpper, AName, AModuleName, AnUpperName, ARole, AnEqualityRole, ANumber, AnOperator, AKind, AKindForm, AType, ATypeForm, ACoercion, ACoercionForm, ABinder, ABinderForm, AnArgument, AnArgumentForm, AnExpression, AnExpressionForm, ABind, AJoinBind, AnAlternative, AnAlternativeForm, AParameter, APlainParameter, FieldBinders, FieldBindersForm, ACoercionField, AConstructor, ADeclaration, ADeclarationForm, AHeader, ABody, ABodyForm, AModule, AThis, AThisNumber, ADemand, ADemandForm, ASignature, SignatureEnd, AnUnfolding, AnUnfoldingForm, AnItem, AnItemForm, AnInterfaceHeader, AnInterfaceBody, AnInterfaceBodyForm, AnInterface, Many, Several}
use Rattle.fc_model.specs.Reading.{Got, Stuck, read_steps, read_part}
use Rattle.fc_read_parts.proofs.Stars.{several_is}
use Rattle.fc_reader.proofs.Steps.{outcome_then, read_then}

-- tokens of which something is given, whatever follows them
pub record Filled {A : Type 0} (st : Steps A) : Type 0 where
  pub tokens : List Tok
  pub value : A
  pub reads : (r : List Tok) → read_steps (tokens ++ r) st ≡ Got value r

abbrev FilledPart : Part → Type 0
FilledPart p = Filled (p ▸ λ x. gives x)

by_tokens : (p : Part) (ts : List Tok) (x : Given p) → ((r : List Tok) → read_part p (ts ++ r) ≡ Got x r) → FilledPart p
by_tokens p ts x h = record { tokens = ts; value = x; reads = h }

-- the names a and A, a type, an expression and a bind
abbrev a : Tok
a = Lower (97 ∷ [])

abbrev n : Tok
n = Upper (78 ∷ [])

abbrev zero : Tok
zero = Literal (pos 0)

abbrev int : Tok
int = Key word.IntHash

abbrev header : List Tok
header = Open ∷ Key word.Module ∷ n ∷ Open ∷ Key word.Imports ∷ Close ∷ Open ∷ Key word.Exports ∷ Close ∷ []

abbrev interface_header : List Tok
interface_header = Open ∷ Lower (codes "interface") ∷ Number 1 ∷ n ∷ Open ∷ Key word.Imports ∷ Close ∷ Open ∷ Key word.Exports ∷ Close ∷ []

abbrev signature : List Tok
signature = Open ∷ Lower (codes "sig") ∷ Close ∷ []

-- a value of which nothing is told, behind its bracket
abbrev value : List Tok
value = Lower (codes "value") ∷ a ∷ int ∷ (signature ++ Key word.None ∷ Close ∷ [])

by_word : (b : Bool) → b ≡ true → (r : List Tok)
    → elim (if b then Some (gives here) else None) [ None ↦ Stuck (suc (length r)) | Some st ↦ read_steps r (and_then st (λ x. gives x)) ] ≡ Got here r
by_word true e r = refl
by_word false e r = absurd (true≢false (sym e))

part_filled : (p : Part) → FilledPart p
part_filled AnOpen = by_tokens AnOpen (Open ∷ []) _ (λ r. refl)
part_filled AClose = by_tokens AClose (Close ∷ []) _ (λ r. refl)
part_filled (AWord k) = by_tokens (AWord k) (Key k ∷ []) here (by_word (bytes_eq (keyword_text k) (keyword_text k)) ((bytes_eq-Decides (keyword_text k) (keyword_text k)).1 refl))
part_filled ALower = by_tokens ALower (a ∷ []) _ (λ r. refl)
part_filled AnUpper = by_tokens AnUpper (n ∷ []) _ (λ r. refl)
part_filled AName = by_tokens AName (n ∷ []) _ (λ r. refl)
part_filled AModuleName = by_tokens AModuleName (n ∷ []) _ (λ r. refl)
part_filled AnUpperName = by_tokens AnUpperName (n ∷ []) _ (λ r. refl)
part_filled ARole = by_tokens ARole (n ∷ []) _ (λ r. refl)
part_filled AnEqualityRole = by_tokens AnEqualityRole (n ∷ []) _ (λ r. refl)
part_filled ANumber = by_tokens ANumber (Number 0 ∷ []) _ (λ r. refl)
part_filled AnOperator = by_tokens AnOperator (Operator op.Plus ∷ []) _ (λ r. refl)
part_filled AKind = by_tokens AKind (Star ∷ []) _ (λ r. refl)
part_filled AKindForm = by_tokens AKindForm (Arrow ∷ Star ∷ Star ∷ Close ∷ []) _ (λ r. refl)
part_filled AType = by_tokens AType (int ∷ []) _ (λ r. refl)
part_filled ATypeForm = by_tokens ATypeForm (Key word.Fun ∷ int ∷ int ∷ Close ∷ []) _ (λ r. refl)
part_filled ACoercion = by_tokens ACoercion (a ∷ []) _ (λ r. refl)
part_filled ACoercionForm = by_tokens ACoercionForm (Key word.Sym ∷ a ∷ Close ∷ []) _ (λ r. refl)
part_filled ABinder = by_tokens ABinder (Open ∷ a ∷ int ∷ Close ∷ []) _ (λ r. refl)
part_filled ABinderForm = by_tokens ABinderForm (a ∷ int ∷ Close ∷ []) _ (λ r. refl)
part_filled AnArgument = by_tokens AnArgument (zero ∷ []) _ (λ r. refl)
part_filled AnArgumentForm = by_tokens AnArgumentForm (Key word.Type ∷ int ∷ Close ∷ []) _ (λ r. refl)
part_filled AnExpression = by_tokens AnExpression (zero ∷ []) _ (λ r. refl)
part_filled AnExpressionForm = by_tokens AnExpressionForm (Key word.Fail ∷ int ∷ Close ∷ []) _ (λ r. refl)
part_filled ABind = by_tokens ABind (Open ∷ a ∷ int ∷ zero ∷ Close ∷ []) _ (λ r. refl)
part_filled AJoinBind = by_tokens AJoinBind (Open ∷ a ∷ Open ∷ Close ∷ zero ∷ Close ∷ []) _ (λ r. refl)
part_filled AnAlternative = by_tokens AnAlternative (Open ∷ zero ∷ zero ∷ Close ∷ []) _ (λ r. refl)
part_filled AnAlternativeForm = by_tokens AnAlternativeForm (zero ∷ zero ∷ Close ∷ []) _ (λ r. refl)
part_filled AParameter = by_tokens AParameter (Open ∷ a ∷ Star ∷ n ∷ Close ∷ []) _ (λ r. refl)
part_filled APlainParameter = by_tokens APlainParameter (Open ∷ a ∷ Star ∷ Close ∷ []) _ (λ r. refl)
part_filled FieldBinders = by_tokens FieldBinders (Close ∷ []) _ (λ r. refl)
part_filled FieldBindersForm = by_tokens FieldBindersForm (Key word.Type ∷ a ∷ Star ∷ Close ∷ Close ∷ []) _ (λ r. refl)
part_filled ACoercionField = by_tokens ACoercionField (Open ∷ Key word.Co ∷ a ∷ n ∷ int ∷ int ∷ Close ∷ []) _ (λ r. refl)
part_filled AConstructor = by_tokens AConstructor (Open ∷ n ∷ Open ∷ Close ∷ Close ∷ []) _ (λ r. refl)
part_filled ADeclaration = by_tokens ADeclaration (Open ∷ Key word.Def ∷ a ∷ int ∷ zero ∷ Close ∷ []) _ (λ r. refl)
part_filled ADeclarationForm = by_tokens ADeclarationForm (Key word.Def ∷ a ∷ int ∷ zero ∷ Close ∷ []) _ (λ r. refl)
part_filled AHeader = by_tokens AHeader header _ (λ r. refl)
part_filled ABody = by_tokens ABody (Close ∷ []) _ (λ r. refl)
part_filled ABodyForm = by_tokens ABodyForm (Key word.Hidden ∷ Close ∷ Close ∷ []) _ (λ r. refl)
part_filled AModule = by_tokens AModule (header ++ Close ∷ []) _ (λ r. refl)
part_filled (AThis w) = by_tokens (AThis w) (Lower w ∷ []) here (by_word (bytes_eq w w) ((bytes_eq-Decides w w).1 refl))
part_filled (AThisNumber k) = by_tokens (AThisNumber k) (Number k ∷ []) here (by_word (k == k) (eq-eqb k k refl))
part_filled ADemand = by_tokens ADemand (Upper (codes "L") ∷ []) _ (λ r. refl)
part_filled ADemandForm = by_tokens ADemandForm (Upper (codes "P") ∷ n ∷ Close ∷ []) _ (λ r. refl)
part_filled ASignature = by_tokens ASignature signature _ (λ r. refl)
part_filled SignatureEnd = by_tokens SignatureEnd (Close ∷ []) _ (λ r. refl)
part_filled AnUnfolding = by_tokens AnUnfolding (Key word.None ∷ []) _ (λ r. refl)
part_filled AnUnfoldingForm = by_tokens AnUnfoldingForm (Key word.Def ∷ zero ∷ Close ∷ []) _ (λ r. refl)
part_filled AnItem = by_tokens AnItem (Open ∷ value) _ (λ r. refl)
part_filled AnItemForm = by_tokens AnItemForm value _ (λ r. refl)
part_filled AnInterfaceHeader = by_tokens AnInterfaceHeader interface_header _ (λ r. refl)
part_filled AnInterfaceBody = by_tokens AnInterfaceBody (Close ∷ []) _ (λ r. refl)
part_filled AnInterfaceBodyForm = by_tokens AnInterfaceBodyForm (Key word.Hidden ∷ Close ∷ Close ∷ []) _ (λ r. refl)
part_filled AnInterface = by_tokens AnInterface (interface_header ++ Close ∷ []) _ (λ r. refl)
part_filled (Many p) = by_tokens (Many p) (Close ∷ []) [] (λ r. refl)
part_filled (Several p) = several_filled (part_filled p) where
  several_filled : FilledPart p → FilledPart (Several p)
  several_filled one = by_tokens (Several p) (one.tokens ++ Close ∷ []) (one.value ∷ []) (λ r.
      several_is p (Several p) ((one.tokens ++ Close ∷ []) ++ r) (λ xs. gives xs)
      ∙ ap (λ ts. read_steps ts (p ▸ λ x. Many p ▸ λ xs. gives (x ∷ xs))) (append_assoc one.tokens (Close ∷ []) r)
      ∙ read_then (one.tokens ++ (Close ∷ r)) p (λ x. Many p ▸ λ xs. gives (x ∷ xs))
      ∙ ap (λ o. outcome_then o (λ x. Many p ▸ λ xs. gives (x ∷ xs))) (one.reads (Close ∷ r)))

pub steps_filled : {A : Type 0} (st : Steps A) → Filled st
steps_filled (gives x) = record { tokens = []; value = x; reads = λ r. refl }
steps_filled (p ▸ f) =
    let first = part_filled p in
    let others = steps_filled (f first.value) in
    record {
      tokens = first.tokens ++ others.tokens;
      value = others.value;
      reads = λ r. ap (λ ts. read_steps ts (p ▸ f)) (append_assoc first.tokens others.tokens r) ∙ read_then (first.tokens ++ (others.tokens ++ r)) p f
          ∙ ap (λ o. outcome_then o f) (first.reads (others.tokens ++ r)) ∙ others.reads r;
    }
