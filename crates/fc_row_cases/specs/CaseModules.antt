-- The modules of the cases, each as a function of the right side of the definition that is rewritten.
use Rattle.std.specs.Prelude.{pos, [], ◌∷◌, codes}
use Rattle.fc_syntax.specs.declared.ty.Role.TheVariants.{N, R}
use Rattle.fc_syntax.specs.Tree.{KStar}
use Rattle.fc_model.specs.Nameless.{NTVar, NTInt, NTApp, NTFun, NTForall, NTCoForall, NGVar}
use Rattle.fc_model.specs.Nameless.{NBValue, NBType, NBCo, NLocal, NLit, NLam, NCase, NCast, NCon, NFail}
use Rattle.fc_model.specs.Nameless.{NoNAlts, NParamOf, NConOf, NData, NNew, NFamily, NAxiom, NDef, NWrap}
use Rattle.fc_model.specs.Nameless.{NExpr, NModule, NModuleOf}
use Rattle.fc_rows.specs.Shrinking.{let_of}
use Rattle.fc_row_cases.specs.CaseTerms.{call, none, given, given_type, on_constructor}
use Rattle.fc_row_cases.specs.CaseNames.{type_Age, type_Base_Bx, type_Base_Int, type_Base_Pair, type_Bool, type_Box, type_Eq, type_Ex, type_F, type_Int, type_List, type_Pair}
use Rattle.fc_row_cases.specs.CaseNames.{type_Poly, type_U, type_W, def_Base_far, def_Base_idf, def_Base_rec, def_Base_two, def_Base_wrec, def_idf, def_rec, def_two, name_Base_I_hash}
use Rattle.fc_row_cases.specs.CaseNames.{name_Base_MkBx, name_Base_MkPair, name_I_hash, name_MkPair}

abbrev pub with_int_idf_f : NExpr → NModule
with_int_idf_f e = NModuleOf (codes "M") [] (codes "f" ∷ []) []
    (NData (codes "Int") [] ((NConOf (codes "I#") [] (NTInt ∷ [])) ∷ [])
    ∷ NDef (codes "idf") (NTFun type_Int type_Int) (NLam (NBValue type_Int) (NLocal 0))
    ∷ NDef (codes "f") (NTFun type_Int type_Int) e
    ∷ [])

abbrev pub with_int_age_f : NExpr → NModule
with_int_age_f e = NModuleOf (codes "M") [] (codes "f" ∷ []) []
    (NData (codes "Int") [] ((NConOf (codes "I#") [] (NTInt ∷ [])) ∷ [])
    ∷ NNew (codes "Age") [] type_Int (codes "CoAge")
    ∷ NDef (codes "f") (NTFun type_Int type_Age) e
    ∷ [])

abbrev pub with_int_f : NExpr → NModule
with_int_f e = NModuleOf (codes "M") [] (codes "f" ∷ []) []
    (NData (codes "Int") [] ((NConOf (codes "I#") [] (NTInt ∷ [])) ∷ [])
    ∷ NDef (codes "f") (NTFun type_Int (NTFun type_Int type_Int)) e
    ∷ [])

abbrev pub with_int_age_f_2 : NExpr → NModule
with_int_age_f_2 e = NModuleOf (codes "M") [] (codes "f" ∷ []) []
    (NData (codes "Int") [] ((NConOf (codes "I#") [] (NTInt ∷ [])) ∷ [])
    ∷ NNew (codes "Age") [] type_Int (codes "CoAge")
    ∷ NDef (codes "f") (NTCoForall R type_Int type_Age (NTFun type_Int (NTCoForall R type_Int type_Int type_Age))) e
    ∷ [])

abbrev pub with_int_box_f : NExpr → NModule
with_int_box_f e = NModuleOf (codes "M") [] (codes "f" ∷ []) []
    (NData (codes "Int") [] ((NConOf (codes "I#") [] (NTInt ∷ [])) ∷ [])
    ∷ NData (codes "Box") (NParamOf KStar R ∷ []) ((NConOf (codes "MkBox") [] (NTVar 0 ∷ [])) ∷ [])
    ∷ NDef (codes "f") (NTFun type_Int (NTApp type_Box type_Int)) e
    ∷ [])

abbrev pub with_f : NExpr → NModule
with_f e = NModuleOf (codes "M") [] (codes "f" ∷ []) []
    (NDef (codes "f") (NTForall KStar (NTForall KStar (NTFun (NTVar 1) (NTVar 0)))) e
    ∷ [])

abbrev pub with_int_eq_f : NExpr → NModule
with_int_eq_f e = NModuleOf (codes "M") [] (codes "f" ∷ []) []
    (NData (codes "Int") [] ((NConOf (codes "I#") [] (NTInt ∷ [])) ∷ [])
    ∷ NData (codes "Eq") (NParamOf KStar N ∷ []) ((NConOf (codes "Refl") (NBCo N (NTVar 0) type_Int ∷ []) (NTVar 0 ∷ [])) ∷ [])
    ∷ NDef (codes "f") (NTFun type_Int (NTApp type_Eq type_Int)) e
    ∷ [])

abbrev pub with_int_f_2 : NExpr → NModule
with_int_f_2 e = NModuleOf (codes "M") [] (codes "f" ∷ []) []
    (NData (codes "Int") [] ((NConOf (codes "I#") [] (NTInt ∷ [])) ∷ [])
    ∷ NDef (codes "f") (NTFun type_Int type_Int) e
    ∷ [])

abbrev pub with_int_two_f : NExpr → NModule
with_int_two_f e = NModuleOf (codes "M") [] (codes "f" ∷ []) []
    (NData (codes "Int") [] ((NConOf (codes "I#") [] (NTInt ∷ [])) ∷ [])
    ∷ NDef (codes "two") type_Int (NCon name_I_hash (given (NLit (pos 2)) none))
    ∷ NDef (codes "f") (NTFun type_Int type_Int) e
    ∷ [])

abbrev pub with_int_two_f_2 : NExpr → NModule
with_int_two_f_2 e = NModuleOf (codes "M") [] (codes "f" ∷ []) []
    (NData (codes "Int") [] ((NConOf (codes "I#") [] (NTInt ∷ [])) ∷ [])
    ∷ NDef (codes "two") type_Int (NCon name_I_hash (given (NLit (pos 2)) none))
    ∷ NDef (codes "f") type_Int e
    ∷ [])

abbrev pub with_f_2 : NExpr → NModule
with_f_2 e = NModuleOf (codes "M") [] (codes "f" ∷ []) []
    (NDef (codes "f") (NTForall KStar (NTForall KStar (NTVar 1))) e
    ∷ [])

abbrev pub with_f_3 : NExpr → NModule
with_f_3 e = NModuleOf (codes "M") [] (codes "f" ∷ []) []
    (NDef (codes "f") (NTForall KStar (NTFun (NTVar 0) (NTForall KStar (NTVar 1)))) e
    ∷ [])

abbrev pub told_int_pair_bx_two_pair_cpair_one_idf_rec_wrec_use_far_untold_fun1 : NModule
told_int_pair_bx_two_pair_cpair_one_idf_rec_wrec_use_far_untold_fun1 = NModuleOf (codes "Base") [] (codes "Int" ∷ codes "I#" ∷ codes "Pair" ∷ codes "MkPair" ∷ codes "two" ∷ codes "pair" ∷ codes "cpair" ∷ codes "one" ∷ codes "idf" ∷ codes "rec" ∷ codes "use" ∷ codes "far" ∷ codes "wrec" ∷ codes "untold" ∷ codes "Bx" ∷ codes "MkBx" ∷ codes "fun1" ∷ []) []
    (NData (codes "Int") [] ((NConOf (codes "I#") [] (NTInt ∷ [])) ∷ [])
    ∷ NData (codes "Pair") [] ((NConOf (codes "MkPair") [] (type_Base_Int ∷ type_Base_Int ∷ [])) ∷ [])
    ∷ NData (codes "Bx") (NParamOf KStar R ∷ []) ((NConOf (codes "MkBx") [] (NTVar 0 ∷ [])) ∷ [])
    ∷ NDef (codes "two") type_Base_Int (NCon name_Base_I_hash (given (NLit (pos 2)) none))
    ∷ NDef (codes "pair") type_Base_Pair (NCon name_Base_MkPair (given def_Base_two (given def_Base_two none)))
    ∷ NDef (codes "cpair") type_Base_Pair (NCon name_Base_MkPair (given def_Base_two (given (NCon name_Base_I_hash (given (NLit (pos 3)) none)) none)))
    ∷ NDef (codes "one") type_Base_Int (call def_Base_idf def_Base_two)
    ∷ NDef (codes "idf") (NTFun type_Base_Int type_Base_Int) (NLam (NBValue type_Base_Int) (NLocal 0))
    ∷ NDef (codes "rec") (NTFun type_Base_Int type_Base_Int) (NFail (NTFun type_Base_Int type_Base_Int))
    ∷ NWrap (codes "wrec") (NTFun type_Base_Int type_Base_Int) (NLam (NBValue type_Base_Int) (call def_Base_wrec (NLocal 0)))
    ∷ NDef (codes "use") (NTFun type_Base_Int type_Base_Int) (NLam (NBValue type_Base_Int) (NCase (NLocal 0) type_Base_Int type_Base_Int (on_constructor name_Base_I_hash (NBValue NTInt ∷ []) (call def_Base_far (NCon name_Base_I_hash (given (NLocal 0) none))) NoNAlts)))
    ∷ NDef (codes "far") (NTFun type_Base_Int type_Base_Int) (NLam (NBValue type_Base_Int) (let_of (NTApp type_Base_Bx type_Base_Int) (NCon name_Base_MkBx (given_type type_Base_Int (given (NLocal 0) none))) (NCase (NLocal 0) (NTApp type_Base_Bx type_Base_Int) type_Base_Int (on_constructor name_Base_MkBx (NBValue type_Base_Int ∷ []) (call def_Base_rec (NLocal 0)) NoNAlts))))
    ∷ NDef (codes "untold") (NTFun type_Base_Int type_Base_Int) (NLam (NBValue type_Base_Int) (call def_Base_idf (call def_Base_idf (call def_Base_idf (call def_Base_idf (call def_Base_idf (call def_Base_idf (call def_Base_idf (call def_Base_idf (call def_Base_idf (call def_Base_idf (call def_Base_idf (call def_Base_idf (call def_Base_idf (call def_Base_idf (call def_Base_idf (call def_Base_idf (call def_Base_idf (call def_Base_idf (call def_Base_idf (call def_Base_idf (call def_Base_idf (call def_Base_idf (call def_Base_idf (call def_Base_idf (call def_Base_idf (call def_Base_idf (call def_Base_idf (call def_Base_idf (call def_Base_idf (call def_Base_idf (call def_Base_idf (call def_Base_idf (call def_Base_idf (call def_Base_idf (call def_Base_idf (call def_Base_idf (call def_Base_idf (call def_Base_idf (call def_Base_idf (call def_Base_idf (call def_Base_idf (call def_Base_idf (call def_Base_idf (call def_Base_idf (call def_Base_idf (call def_Base_idf (call def_Base_idf (call def_Base_idf (call def_Base_idf (call def_Base_idf (call def_Base_idf (call def_Base_idf (call def_Base_idf (call def_Base_idf (call def_Base_idf (call def_Base_idf (call def_Base_idf (call def_Base_idf (call def_Base_idf (call def_Base_idf (call def_Base_idf (call def_Base_idf (call def_Base_idf (call def_Base_idf (call def_Base_idf (call def_Base_idf (call def_Base_idf (call def_Base_idf (call def_Base_idf (call def_Base_idf (call def_Base_idf (call def_Base_idf (call def_Base_idf (call def_Base_idf (call def_Base_idf (call def_Base_idf (call def_Base_idf (call def_Base_idf (call def_Base_idf (call def_Base_idf (call def_Base_idf (call def_Base_idf (call def_Base_idf (call def_Base_idf (call def_Base_idf (call def_Base_idf (call def_Base_idf (call def_Base_idf (call def_Base_idf (call def_Base_idf (call def_Base_idf (call def_Base_idf (call def_Base_idf (call def_Base_idf (call def_Base_idf (call def_Base_idf (call def_Base_idf (call def_Base_idf (call def_Base_idf (call def_Base_idf (call def_Base_idf (call def_Base_idf (call def_Base_idf (call def_Base_idf (call def_Base_idf (call def_Base_idf (call def_Base_idf (call def_Base_idf (call def_Base_idf (call def_Base_idf (call def_Base_idf (call def_Base_idf (call def_Base_idf (call def_Base_idf (call def_Base_idf (call def_Base_idf (call def_Base_idf (call def_Base_idf (call def_Base_idf (call def_Base_idf (call def_Base_idf (call def_Base_idf (call def_Base_idf (call def_Base_idf (call def_Base_idf (call def_Base_idf (call def_Base_idf (call def_Base_idf (call def_Base_idf (call def_Base_idf (call def_Base_idf (call def_Base_idf (call def_Base_idf (call def_Base_idf (call def_Base_idf (call def_Base_idf (call def_Base_idf (call def_Base_idf (call def_Base_idf (call def_Base_idf (call def_Base_idf (call def_Base_idf (call def_Base_idf (call def_Base_idf (call def_Base_idf (call def_Base_idf (call def_Base_idf (call def_Base_idf (call def_Base_idf (call def_Base_idf (NLocal 0))))))))))))))))))))))))))))))))))))))))))))))))))))))))))))))))))))))))))))))))))))))))))))))))))))))))))))))))))))))))))))))))))))))))))))))))))))))))
    ∷ NDef (codes "fun1") (NTFun type_Base_Int type_Base_Int) def_Base_idf
    ∷ [])

abbrev pub with_f_4 : NExpr → NModule
with_f_4 e = NModuleOf (codes "M") (codes "Base" ∷ []) (codes "f" ∷ []) []
    (NDef (codes "f") (NTFun type_Base_Int type_Base_Int) e
    ∷ [])

abbrev pub with_int_f_3 : NExpr → NModule
with_int_f_3 e = NModuleOf (codes "M") [] (codes "f" ∷ []) []
    (NData (codes "Int") [] ((NConOf (codes "I#") [] (NTInt ∷ [])) ∷ [])
    ∷ NDef (codes "f") type_Int (call (NLam (NBValue type_Int) (NLocal 0)) (NCon name_I_hash (given (NLit (pos 1)) none)))
    ∷ [])

abbrev pub with_int_f_4 : NExpr → NModule
with_int_f_4 e = NModuleOf (codes "M") [] (codes "f" ∷ []) []
    (NData (codes "Int") [] ((NConOf (codes "I#") [] (NTInt ∷ [])) ∷ [])
    ∷ NDef (codes "f") type_Int e
    ∷ [])

abbrev pub with_int_idf_f_2 : NExpr → NModule
with_int_idf_f_2 e = NModuleOf (codes "M") [] (codes "f" ∷ []) []
    (NData (codes "Int") [] ((NConOf (codes "I#") [] (NTInt ∷ [])) ∷ [])
    ∷ NDef (codes "idf") (NTFun type_Int type_Int) (NLam (NBValue type_Int) (NLocal 0))
    ∷ NDef (codes "f") (NTFun type_Int (NTFun type_Int type_Int)) e
    ∷ [])

abbrev pub with_int_pair_idf_f : NExpr → NModule
with_int_pair_idf_f e = NModuleOf (codes "M") [] (codes "f" ∷ []) []
    (NData (codes "Int") [] ((NConOf (codes "I#") [] (NTInt ∷ [])) ∷ [])
    ∷ NData (codes "Pair") [] ((NConOf (codes "MkPair") [] (type_Int ∷ type_Int ∷ [])) ∷ [])
    ∷ NDef (codes "idf") (NTFun type_Int type_Int) (NLam (NBValue type_Int) (NLocal 0))
    ∷ NDef (codes "f") (NTFun type_Int (NTFun type_Int type_Pair)) e
    ∷ [])

abbrev pub with_int_two_idf_f : NExpr → NModule
with_int_two_idf_f e = NModuleOf (codes "M") [] (codes "f" ∷ []) []
    (NData (codes "Int") [] ((NConOf (codes "I#") [] (NTInt ∷ [])) ∷ [])
    ∷ NDef (codes "two") type_Int (NCon name_I_hash (given (NLit (pos 2)) none))
    ∷ NDef (codes "idf") (NTFun type_Int type_Int) (NLam (NBValue type_Int) (NLocal 0))
    ∷ NDef (codes "f") (NTFun type_Int type_Int) e
    ∷ [])

abbrev pub with_int_f_5 : NExpr → NModule
with_int_f_5 e = NModuleOf (codes "M") [] (codes "f" ∷ []) []
    (NData (codes "Int") [] ((NConOf (codes "I#") [] (NTInt ∷ [])) ∷ [])
    ∷ NDef (codes "f") (NTFun type_Int (NTFun type_Int (NTFun type_Int type_Int))) e
    ∷ [])

abbrev pub with_int_pair_f : NExpr → NModule
with_int_pair_f e = NModuleOf (codes "M") [] (codes "f" ∷ []) []
    (NData (codes "Int") [] ((NConOf (codes "I#") [] (NTInt ∷ [])) ∷ [])
    ∷ NData (codes "Pair") [] ((NConOf (codes "MkPair") [] (type_Int ∷ type_Int ∷ [])) ∷ [])
    ∷ NDef (codes "f") (NTFun type_Int type_Pair) e
    ∷ [])

abbrev pub with_int_f_6 : NExpr → NModule
with_int_f_6 e = NModuleOf (codes "M") [] (codes "f" ∷ []) []
    (NData (codes "Int") [] ((NConOf (codes "I#") [] (NTInt ∷ [])) ∷ [])
    ∷ NDef (codes "f") (NTFun NTInt type_Int) e
    ∷ [])

abbrev pub with_int_fn_tid_f : NExpr → NModule
with_int_fn_tid_f e = NModuleOf (codes "M") [] (codes "f" ∷ []) []
    (NData (codes "Int") [] ((NConOf (codes "I#") [] (NTInt ∷ [])) ∷ [])
    ∷ NNew (codes "Fn") [] (NTFun type_Int type_Int) (codes "CoFn")
    ∷ NDef (codes "tid") (NTForall KStar (NTFun (NTVar 0) (NTVar 0))) (NLam (NBType KStar) (NLam (NBValue (NTVar 0)) (NLocal 0)))
    ∷ NDef (codes "f") (NTFun type_Int type_Int) e
    ∷ [])

abbrev pub with_int_cid_f : NExpr → NModule
with_int_cid_f e = NModuleOf (codes "M") [] (codes "f" ∷ []) []
    (NData (codes "Int") [] ((NConOf (codes "I#") [] (NTInt ∷ [])) ∷ [])
    ∷ NDef (codes "cid") (NTCoForall R type_Int type_Int (NTFun type_Int type_Int)) (NLam (NBCo R type_Int type_Int) (NLam (NBValue type_Int) (NCast (NLocal 0) (NGVar 0))))
    ∷ NDef (codes "f") (NTFun type_Int type_Int) e
    ∷ [])

abbrev pub with_f_5 : NExpr → NModule
with_f_5 e = NModuleOf (codes "M") [] (codes "f" ∷ []) []
    (NDef (codes "f") (NTForall KStar (NTFun (NTForall KStar (NTVar 1)) (NTForall KStar (NTFun (NTVar 0) (NTVar 1))))) e
    ∷ [])

abbrev pub with_int_pair_idf_f_2 : NExpr → NModule
with_int_pair_idf_f_2 e = NModuleOf (codes "M") [] (codes "f" ∷ []) []
    (NData (codes "Int") [] ((NConOf (codes "I#") [] (NTInt ∷ [])) ∷ [])
    ∷ NData (codes "Pair") [] ((NConOf (codes "MkPair") [] (type_Int ∷ type_Int ∷ [])) ∷ [])
    ∷ NDef (codes "idf") (NTFun type_Int type_Int) (NLam (NBValue type_Int) (NLocal 0))
    ∷ NDef (codes "f") (NTFun type_Int type_Pair) e
    ∷ [])

abbrev pub with_int_idf_f_3 : NExpr → NModule
with_int_idf_f_3 e = NModuleOf (codes "M") [] (codes "f" ∷ []) []
    (NData (codes "Int") [] ((NConOf (codes "I#") [] (NTInt ∷ [])) ∷ [])
    ∷ NDef (codes "idf") (NTFun type_Int type_Int) (NLam (NBValue type_Int) (NLocal 0))
    ∷ NDef (codes "f") (NTFun type_Int (NTForall KStar type_Int)) e
    ∷ [])

abbrev pub with_int_box_age_idf_f : NExpr → NModule
with_int_box_age_idf_f e = NModuleOf (codes "M") [] (codes "f" ∷ []) []
    (NData (codes "Int") [] ((NConOf (codes "I#") [] (NTInt ∷ [])) ∷ [])
    ∷ NData (codes "Box") (NParamOf KStar R ∷ []) ((NConOf (codes "MkBox") [] (NTVar 0 ∷ [])) ∷ [])
    ∷ NNew (codes "Age") [] type_Int (codes "CoAge")
    ∷ NDef (codes "idf") (NTFun type_Int type_Int) (NLam (NBValue type_Int) (NLocal 0))
    ∷ NDef (codes "f") (NTFun type_Int (NTApp type_Box type_Age)) e
    ∷ [])

abbrev pub with_int_eq_age_f : NExpr → NModule
with_int_eq_age_f e = NModuleOf (codes "M") [] (codes "f" ∷ []) []
    (NData (codes "Int") [] ((NConOf (codes "I#") [] (NTInt ∷ [])) ∷ [])
    ∷ NData (codes "Eq") (NParamOf KStar N ∷ []) ((NConOf (codes "Refl") (NBCo N (NTVar 0) type_Int ∷ []) (NTVar 0 ∷ [])) ∷ [])
    ∷ NNew (codes "Age") [] type_Int (codes "CoAge")
    ∷ NDef (codes "f") (NTCoForall R type_Int type_Age (NTFun type_Int (NTFun (NTApp type_Eq type_Int) type_Age))) e
    ∷ [])

abbrev pub with_int_idf_f_4 : NExpr → NModule
with_int_idf_f_4 e = NModuleOf (codes "M") [] (codes "f" ∷ []) []
    (NData (codes "Int") [] ((NConOf (codes "I#") [] (NTInt ∷ [])) ∷ [])
    ∷ NDef (codes "idf") (NTFun type_Int type_Int) (NLam (NBValue type_Int) (NLocal 0))
    ∷ NDef (codes "f") (NTFun type_Int (NTCoForall R type_Int type_Int type_Int)) e
    ∷ [])

abbrev pub with_int_bool_box_f : NExpr → NModule
with_int_bool_box_f e = NModuleOf (codes "M") [] (codes "f" ∷ []) []
    (NData (codes "Int") [] ((NConOf (codes "I#") [] (NTInt ∷ [])) ∷ [])
    ∷ NData (codes "Bool") [] (NConOf (codes "False") [] [] ∷ NConOf (codes "True") [] [] ∷ [])
    ∷ NData (codes "Box") (NParamOf KStar R ∷ []) ((NConOf (codes "MkBox") [] (NTVar 0 ∷ [])) ∷ [])
    ∷ NDef (codes "f") (NTFun type_Int (NTApp type_Box type_Int)) e
    ∷ [])

abbrev pub with_int_idf_fst_f : NExpr → NModule
with_int_idf_fst_f e = NModuleOf (codes "M") [] (codes "f" ∷ []) []
    (NData (codes "Int") [] ((NConOf (codes "I#") [] (NTInt ∷ [])) ∷ [])
    ∷ NDef (codes "idf") (NTFun type_Int type_Int) (NLam (NBValue type_Int) (NLocal 0))
    ∷ NDef (codes "fst") (NTFun type_Int (NTFun type_Int type_Int)) (NLam (NBValue type_Int) (NLam (NBValue type_Int) (NLocal 1)))
    ∷ NDef (codes "f") (NTFun type_Int type_Int) e
    ∷ [])

abbrev pub with_int_two_f_3 : NExpr → NModule
with_int_two_f_3 e = NModuleOf (codes "M") [] (codes "f" ∷ []) []
    (NData (codes "Int") [] ((NConOf (codes "I#") [] (NTInt ∷ [])) ∷ [])
    ∷ NDef (codes "two") type_Int (NCon name_I_hash (given (NLit (pos 2)) none))
    ∷ NDef (codes "f") (NTForall KStar (NTFun (NTVar 0) (NTVar 0))) e
    ∷ [])

abbrev pub with_int_bool_f : NExpr → NModule
with_int_bool_f e = NModuleOf (codes "M") [] (codes "f" ∷ []) []
    (NData (codes "Int") [] ((NConOf (codes "I#") [] (NTInt ∷ [])) ∷ [])
    ∷ NData (codes "Bool") [] (NConOf (codes "False") [] [] ∷ NConOf (codes "True") [] [] ∷ [])
    ∷ NDef (codes "f") (NTFun type_Int type_Bool) e
    ∷ [])

abbrev pub with_int_pair_two_pair_f : NExpr → NModule
with_int_pair_two_pair_f e = NModuleOf (codes "M") [] (codes "f" ∷ []) []
    (NData (codes "Int") [] ((NConOf (codes "I#") [] (NTInt ∷ [])) ∷ [])
    ∷ NData (codes "Pair") [] ((NConOf (codes "MkPair") [] (type_Int ∷ type_Int ∷ [])) ∷ [])
    ∷ NDef (codes "two") type_Int (NCon name_I_hash (given (NLit (pos 2)) none))
    ∷ NDef (codes "pair") type_Pair (NCon name_MkPair (given def_two (given def_two none)))
    ∷ NDef (codes "f") (NTFun type_Int type_Int) e
    ∷ [])

abbrev pub with_int_pair_two_big_f : NExpr → NModule
with_int_pair_two_big_f e = NModuleOf (codes "M") [] (codes "f" ∷ []) []
    (NData (codes "Int") [] ((NConOf (codes "I#") [] (NTInt ∷ [])) ∷ [])
    ∷ NData (codes "Pair") [] ((NConOf (codes "MkPair") [] (type_Int ∷ type_Int ∷ [])) ∷ [])
    ∷ NDef (codes "two") type_Int (NCon name_I_hash (given (NLit (pos 2)) none))
    ∷ NDef (codes "big") type_Pair (NCon name_MkPair (given def_two (given (NCon name_I_hash (given (NLit (pos 3)) none)) none)))
    ∷ NDef (codes "f") (NTFun type_Int type_Int) e
    ∷ [])

abbrev pub with_int_ex_idf_f : NExpr → NModule
with_int_ex_idf_f e = NModuleOf (codes "M") [] (codes "f" ∷ []) []
    (NData (codes "Int") [] ((NConOf (codes "I#") [] (NTInt ∷ [])) ∷ [])
    ∷ NData (codes "Ex") [] ((NConOf (codes "Pack") (NBType KStar ∷ []) (NTVar 0 ∷ NTFun (NTVar 0) type_Int ∷ [])) ∷ [])
    ∷ NDef (codes "idf") (NTFun type_Int type_Int) (NLam (NBValue type_Int) (NLocal 0))
    ∷ NDef (codes "f") (NTFun type_Int type_Int) e
    ∷ [])

abbrev pub with_int_pair_f_2 : NExpr → NModule
with_int_pair_f_2 e = NModuleOf (codes "M") [] (codes "f" ∷ []) []
    (NData (codes "Int") [] ((NConOf (codes "I#") [] (NTInt ∷ [])) ∷ [])
    ∷ NData (codes "Pair") [] ((NConOf (codes "MkPair") [] (type_Int ∷ type_Int ∷ [])) ∷ [])
    ∷ NDef (codes "f") (NTFun type_Int (NTFun type_Int type_Pair)) e
    ∷ [])

abbrev pub with_int_ex_idf_f_2 : NExpr → NModule
with_int_ex_idf_f_2 e = NModuleOf (codes "M") [] (codes "f" ∷ []) []
    (NData (codes "Int") [] ((NConOf (codes "I#") [] (NTInt ∷ [])) ∷ [])
    ∷ NData (codes "Ex") [] ((NConOf (codes "Pack") (NBType KStar ∷ []) (NTVar 0 ∷ NTFun (NTVar 0) type_Int ∷ [])) ∷ [])
    ∷ NDef (codes "idf") (NTFun type_Int type_Int) (NLam (NBValue type_Int) (NLocal 0))
    ∷ NDef (codes "f") (NTFun type_Int type_Ex) e
    ∷ [])

abbrev pub with_int_bool_two_f : NExpr → NModule
with_int_bool_two_f e = NModuleOf (codes "M") [] (codes "f" ∷ []) []
    (NData (codes "Int") [] ((NConOf (codes "I#") [] (NTInt ∷ [])) ∷ [])
    ∷ NData (codes "Bool") [] (NConOf (codes "False") [] [] ∷ NConOf (codes "True") [] [] ∷ [])
    ∷ NDef (codes "two") type_Int (NCon name_I_hash (given (NLit (pos 2)) none))
    ∷ NDef (codes "f") (NTFun type_Int type_Int) e
    ∷ [])

abbrev pub with_int_pair_two_f : NExpr → NModule
with_int_pair_two_f e = NModuleOf (codes "M") [] (codes "f" ∷ []) []
    (NData (codes "Int") [] ((NConOf (codes "I#") [] (NTInt ∷ [])) ∷ [])
    ∷ NData (codes "Pair") [] ((NConOf (codes "MkPair") [] (type_Int ∷ type_Int ∷ [])) ∷ [])
    ∷ NDef (codes "two") type_Int (NCon name_I_hash (given (NLit (pos 2)) none))
    ∷ NDef (codes "f") (NTFun type_Int type_Int) e
    ∷ [])

abbrev pub with_int_list_f : NExpr → NModule
with_int_list_f e = NModuleOf (codes "M") [] (codes "f" ∷ []) []
    (NData (codes "Int") [] ((NConOf (codes "I#") [] (NTInt ∷ [])) ∷ [])
    ∷ NData (codes "List") (NParamOf KStar R ∷ []) (NConOf (codes "Nil") [] [] ∷ (NConOf (codes "Cons") [] (NTVar 0 ∷ NTApp type_List (NTVar 0) ∷ [])) ∷ [])
    ∷ NDef (codes "f") (NTFun type_Int type_Int) e
    ∷ [])

abbrev pub with_int_ex_f : NExpr → NModule
with_int_ex_f e = NModuleOf (codes "M") [] (codes "f" ∷ []) []
    (NData (codes "Int") [] ((NConOf (codes "I#") [] (NTInt ∷ [])) ∷ [])
    ∷ NData (codes "Ex") [] ((NConOf (codes "Pack") (NBType KStar ∷ []) (NTVar 0 ∷ NTFun (NTVar 0) type_Int ∷ [])) ∷ [])
    ∷ NDef (codes "f") (NTFun type_Ex type_Int) e
    ∷ [])

abbrev pub with_int_ex_f_2 : NExpr → NModule
with_int_ex_f_2 e = NModuleOf (codes "M") [] (codes "f" ∷ []) []
    (NData (codes "Int") [] ((NConOf (codes "I#") [] (NTInt ∷ [])) ∷ [])
    ∷ NData (codes "Ex") [] ((NConOf (codes "Pack") (NBType KStar ∷ []) (NTVar 0 ∷ NTFun (NTVar 0) type_Int ∷ [])) ∷ [])
    ∷ NDef (codes "f") (NTFun type_Ex (NTForall KStar type_Int)) e
    ∷ [])

abbrev pub with_int_eq_f_2 : NExpr → NModule
with_int_eq_f_2 e = NModuleOf (codes "M") [] (codes "f" ∷ []) []
    (NData (codes "Int") [] ((NConOf (codes "I#") [] (NTInt ∷ [])) ∷ [])
    ∷ NData (codes "Eq") (NParamOf KStar N ∷ []) ((NConOf (codes "Refl") (NBCo N (NTVar 0) type_Int ∷ []) (NTVar 0 ∷ [])) ∷ [])
    ∷ NDef (codes "f") (NTFun (NTApp type_Eq type_Int) (NTCoForall R type_Int type_Int type_Int)) e
    ∷ [])

abbrev pub with_int_two_f_4 : NExpr → NModule
with_int_two_f_4 e = NModuleOf (codes "M") [] (codes "f" ∷ []) []
    (NData (codes "Int") [] ((NConOf (codes "I#") [] (NTInt ∷ [])) ∷ [])
    ∷ NDef (codes "two") type_Int (NCon name_I_hash (given (NLit (pos 2)) none))
    ∷ NDef (codes "f") (NTFun NTInt (NTFun type_Int type_Int)) e
    ∷ [])

abbrev pub with_int_pair_idf_f_3 : NExpr → NModule
with_int_pair_idf_f_3 e = NModuleOf (codes "M") [] (codes "f" ∷ []) []
    (NData (codes "Int") [] ((NConOf (codes "I#") [] (NTInt ∷ [])) ∷ [])
    ∷ NData (codes "Pair") [] ((NConOf (codes "MkPair") [] (type_Int ∷ type_Int ∷ [])) ∷ [])
    ∷ NDef (codes "idf") (NTFun type_Int type_Int) (NLam (NBValue type_Int) (NLocal 0))
    ∷ NDef (codes "f") (NTFun type_Int type_Int) e
    ∷ [])

abbrev pub with_int_two_idf_thk_f : NExpr → NModule
with_int_two_idf_thk_f e = NModuleOf (codes "M") [] (codes "f" ∷ []) []
    (NData (codes "Int") [] ((NConOf (codes "I#") [] (NTInt ∷ [])) ∷ [])
    ∷ NDef (codes "two") type_Int (NCon name_I_hash (given (NLit (pos 2)) none))
    ∷ NDef (codes "idf") (NTFun type_Int type_Int) (NLam (NBValue type_Int) (NLocal 0))
    ∷ NDef (codes "thk") type_Int (call def_idf def_two)
    ∷ NDef (codes "f") (NTFun type_Int type_Int) e
    ∷ [])

abbrev pub with_int_box_f_2 : NExpr → NModule
with_int_box_f_2 e = NModuleOf (codes "M") [] (codes "f" ∷ []) []
    (NData (codes "Int") [] ((NConOf (codes "I#") [] (NTInt ∷ [])) ∷ [])
    ∷ NData (codes "Box") (NParamOf KStar R ∷ []) ((NConOf (codes "MkBox") [] (NTVar 0 ∷ [])) ∷ [])
    ∷ NDef (codes "f") (NTFun type_Int type_Int) e
    ∷ [])

abbrev pub with_exc_f : NExpr → NModule
with_exc_f e = NModuleOf (codes "M") [] (codes "f" ∷ []) []
    (NData (codes "ExC") (NParamOf KStar R ∷ []) ((NConOf (codes "MkExC") (NBType KStar ∷ NBCo R (NTVar 1) (NTVar 0) ∷ []) (NTVar 0 ∷ [])) ∷ [])
    ∷ NDef (codes "f") (NTForall KStar (NTFun (NTVar 0) (NTForall KStar (NTVar 1)))) e
    ∷ [])

abbrev pub with_int_rec_f : NExpr → NModule
with_int_rec_f e = NModuleOf (codes "M") [] (codes "f" ∷ []) []
    (NData (codes "Int") [] ((NConOf (codes "I#") [] (NTInt ∷ [])) ∷ [])
    ∷ NDef (codes "rec") (NTFun type_Int type_Int) (NLam (NBValue type_Int) (call def_rec (NLocal 0)))
    ∷ NDef (codes "f") (NTFun type_Int type_Int) e
    ∷ [])

abbrev pub with_int_bool_two_f_2 : NExpr → NModule
with_int_bool_two_f_2 e = NModuleOf (codes "M") [] (codes "f" ∷ []) []
    (NData (codes "Int") [] ((NConOf (codes "I#") [] (NTInt ∷ [])) ∷ [])
    ∷ NData (codes "Bool") [] (NConOf (codes "False") [] [] ∷ NConOf (codes "True") [] [] ∷ [])
    ∷ NDef (codes "two") type_Int (NCon name_I_hash (given (NLit (pos 2)) none))
    ∷ NDef (codes "f") (NTFun type_Bool type_Int) e
    ∷ [])

abbrev pub with_int_two_lit_idf_thk_f : NExpr → NModule
with_int_two_lit_idf_thk_f e = NModuleOf (codes "M") [] (codes "f" ∷ []) []
    (NData (codes "Int") [] ((NConOf (codes "I#") [] (NTInt ∷ [])) ∷ [])
    ∷ NDef (codes "two") type_Int (NCon name_I_hash (given (NLit (pos 2)) none))
    ∷ NDef (codes "lit") type_Int (NCon name_I_hash (given (NLit (pos 7)) none))
    ∷ NDef (codes "idf") (NTFun type_Int type_Int) (NLam (NBValue type_Int) (NLocal 0))
    ∷ NDef (codes "thk") type_Int (call def_idf def_two)
    ∷ NDef (codes "f") (NTFun NTInt type_Int) e
    ∷ [])

abbrev pub with_int_bool_two_lit_f : NExpr → NModule
with_int_bool_two_lit_f e = NModuleOf (codes "M") [] (codes "f" ∷ []) []
    (NData (codes "Int") [] ((NConOf (codes "I#") [] (NTInt ∷ [])) ∷ [])
    ∷ NData (codes "Bool") [] (NConOf (codes "False") [] [] ∷ NConOf (codes "True") [] [] ∷ [])
    ∷ NDef (codes "two") type_Int (NCon name_I_hash (given (NLit (pos 2)) none))
    ∷ NDef (codes "lit") type_Int (NCon name_I_hash (given (NLit (pos 7)) none))
    ∷ NDef (codes "f") (NTFun type_Bool type_Int) e
    ∷ [])

abbrev pub with_int_bool_two_lit_f_2 : NExpr → NModule
with_int_bool_two_lit_f_2 e = NModuleOf (codes "M") [] (codes "f" ∷ []) []
    (NData (codes "Int") [] ((NConOf (codes "I#") [] (NTInt ∷ [])) ∷ [])
    ∷ NData (codes "Bool") [] (NConOf (codes "False") [] [] ∷ NConOf (codes "True") [] [] ∷ [])
    ∷ NDef (codes "two") type_Int (NCon name_I_hash (given (NLit (pos 2)) none))
    ∷ NDef (codes "lit") type_Int (NCon name_I_hash (given (NLit (pos 7)) none))
    ∷ NDef (codes "f") (NTFun type_Bool (NTFun type_Bool type_Int)) e
    ∷ [])

abbrev pub with_int_bool_box_f_2 : NExpr → NModule
with_int_bool_box_f_2 e = NModuleOf (codes "M") [] (codes "f" ∷ []) []
    (NData (codes "Int") [] ((NConOf (codes "I#") [] (NTInt ∷ [])) ∷ [])
    ∷ NData (codes "Bool") [] (NConOf (codes "False") [] [] ∷ NConOf (codes "True") [] [] ∷ [])
    ∷ NData (codes "Box") (NParamOf KStar R ∷ []) ((NConOf (codes "MkBox") [] (NTVar 0 ∷ [])) ∷ [])
    ∷ NDef (codes "f") (NTFun type_Int (NTApp type_Box type_Bool)) e
    ∷ [])

abbrev pub with_int_w_f : NExpr → NModule
with_int_w_f e = NModuleOf (codes "M") [] (codes "f" ∷ []) []
    (NData (codes "Int") [] ((NConOf (codes "I#") [] (NTInt ∷ [])) ∷ [])
    ∷ NNew (codes "W") (NParamOf KStar R ∷ []) (NTVar 0) (codes "CoW")
    ∷ NDef (codes "f") (NTFun type_Int type_Int) e
    ∷ [])

abbrev pub with_int_f_7 : NExpr → NModule
with_int_f_7 e = NModuleOf (codes "M") [] (codes "f" ∷ []) []
    (NData (codes "Int") [] ((NConOf (codes "I#") [] (NTInt ∷ [])) ∷ [])
    ∷ NDef (codes "f") (NTForall KStar (NTCoForall R type_Int (NTVar 0) (NTForall KStar (NTVar 1)))) e
    ∷ [])

abbrev pub with_int_f_8 : NExpr → NModule
with_int_f_8 e = NModuleOf (codes "M") [] (codes "f" ∷ []) []
    (NData (codes "Int") [] ((NConOf (codes "I#") [] (NTInt ∷ [])) ∷ [])
    ∷ NDef (codes "f") (NTForall KStar (NTCoForall R (NTFun type_Int (NTVar 0)) type_Int (NTFun type_Int (NTForall KStar (NTVar 1))))) e
    ∷ [])

abbrev pub with_int_age_f_3 : NExpr → NModule
with_int_age_f_3 e = NModuleOf (codes "M") [] (codes "f" ∷ []) []
    (NData (codes "Int") [] ((NConOf (codes "I#") [] (NTInt ∷ [])) ∷ [])
    ∷ NNew (codes "Age") [] type_Int (codes "CoAge")
    ∷ NDef (codes "f") (NTFun type_Int type_Int) e
    ∷ [])

abbrev pub with_int_f_9 : NExpr → NModule
with_int_f_9 e = NModuleOf (codes "M") [] (codes "f" ∷ []) []
    (NData (codes "Int") [] ((NConOf (codes "I#") [] (NTInt ∷ [])) ∷ [])
    ∷ NDef (codes "f") (NTCoForall R type_Int type_Int (NTFun type_Int type_Int)) e
    ∷ [])

abbrev pub with_int_age_f_4 : NExpr → NModule
with_int_age_f_4 e = NModuleOf (codes "M") [] (codes "f" ∷ []) []
    (NData (codes "Int") [] ((NConOf (codes "I#") [] (NTInt ∷ [])) ∷ [])
    ∷ NNew (codes "Age") [] type_Int (codes "CoAge")
    ∷ NDef (codes "f") (NTCoForall R type_Int type_Age (NTFun type_Int type_Age)) e
    ∷ [])

abbrev pub with_f_6 : NExpr → NModule
with_f_6 e = NModuleOf (codes "M") [] (codes "f" ∷ []) []
    (NDef (codes "f") (NTFun (NTForall KStar (NTVar 0)) (NTForall KStar (NTVar 0))) e
    ∷ [])

abbrev pub with_int_bool_f_fi_f : NExpr → NModule
with_int_bool_f_fi_f e = NModuleOf (codes "M") [] (codes "f" ∷ []) []
    (NData (codes "Int") [] ((NConOf (codes "I#") [] (NTInt ∷ [])) ∷ [])
    ∷ NData (codes "Bool") [] (NConOf (codes "False") [] [] ∷ NConOf (codes "True") [] [] ∷ [])
    ∷ NFamily (codes "F") (KStar ∷ []) KStar
    ∷ NAxiom (codes "FI") [] (NTApp type_F type_Int) type_Bool
    ∷ NDef (codes "f") (NTFun type_Bool (NTApp type_F type_Int)) e
    ∷ [])

abbrev pub with_int_w_f_2 : NExpr → NModule
with_int_w_f_2 e = NModuleOf (codes "M") [] (codes "f" ∷ []) []
    (NData (codes "Int") [] ((NConOf (codes "I#") [] (NTInt ∷ [])) ∷ [])
    ∷ NNew (codes "W") (NParamOf KStar R ∷ []) (NTVar 0) (codes "CoW")
    ∷ NDef (codes "f") (NTFun type_Int (NTApp type_W type_Int)) e
    ∷ [])

abbrev pub with_int_bool_f_2 : NExpr → NModule
with_int_bool_f_2 e = NModuleOf (codes "M") [] (codes "f" ∷ []) []
    (NData (codes "Int") [] ((NConOf (codes "I#") [] (NTInt ∷ [])) ∷ [])
    ∷ NData (codes "Bool") [] (NConOf (codes "False") [] [] ∷ NConOf (codes "True") [] [] ∷ [])
    ∷ NDef (codes "f") (NTFun type_Int type_Int) e
    ∷ [])

abbrev pub with_int_ex_two_f : NExpr → NModule
with_int_ex_two_f e = NModuleOf (codes "M") [] (codes "f" ∷ []) []
    (NData (codes "Int") [] ((NConOf (codes "I#") [] (NTInt ∷ [])) ∷ [])
    ∷ NData (codes "Ex") [] ((NConOf (codes "Pack") (NBType KStar ∷ []) (NTVar 0 ∷ NTFun (NTVar 0) type_Int ∷ [])) ∷ [])
    ∷ NDef (codes "two") type_Int (NCon name_I_hash (given (NLit (pos 2)) none))
    ∷ NDef (codes "f") (NTForall KStar (NTFun (NTVar 0) (NTFun type_Ex type_Int))) e
    ∷ [])

abbrev pub with_int_idf_cid_f : NExpr → NModule
with_int_idf_cid_f e = NModuleOf (codes "M") [] (codes "f" ∷ []) []
    (NData (codes "Int") [] ((NConOf (codes "I#") [] (NTInt ∷ [])) ∷ [])
    ∷ NDef (codes "idf") (NTFun type_Int type_Int) (NLam (NBValue type_Int) (NLocal 0))
    ∷ NDef (codes "cid") (NTCoForall R type_Int type_Int (NTFun type_Int type_Int)) (NLam (NBCo R type_Int type_Int) (NLam (NBValue type_Int) (NCast (NLocal 0) (NGVar 0))))
    ∷ NDef (codes "f") (NTFun type_Int (NTFun type_Int type_Int)) e
    ∷ [])

abbrev pub with_int_fst_f : NExpr → NModule
with_int_fst_f e = NModuleOf (codes "M") [] (codes "f" ∷ []) []
    (NData (codes "Int") [] ((NConOf (codes "I#") [] (NTInt ∷ [])) ∷ [])
    ∷ NDef (codes "fst") (NTFun type_Int (NTFun type_Int type_Int)) (NLam (NBValue type_Int) (NLam (NBValue type_Int) (NLocal 1)))
    ∷ NDef (codes "f") (NTFun type_Int (NTFun type_Int type_Int)) e
    ∷ [])

abbrev pub with_int_age_idf_f : NExpr → NModule
with_int_age_idf_f e = NModuleOf (codes "M") [] (codes "f" ∷ []) []
    (NData (codes "Int") [] ((NConOf (codes "I#") [] (NTInt ∷ [])) ∷ [])
    ∷ NNew (codes "Age") [] type_Int (codes "CoAge")
    ∷ NDef (codes "idf") (NTFun type_Int type_Int) (NLam (NBValue type_Int) (NLocal 0))
    ∷ NDef (codes "f") (NTFun type_Int type_Age) e
    ∷ [])

abbrev pub with_int_pair_two_idf_thk_f : NExpr → NModule
with_int_pair_two_idf_thk_f e = NModuleOf (codes "M") [] (codes "f" ∷ []) []
    (NData (codes "Int") [] ((NConOf (codes "I#") [] (NTInt ∷ [])) ∷ [])
    ∷ NData (codes "Pair") [] ((NConOf (codes "MkPair") [] (type_Int ∷ type_Int ∷ [])) ∷ [])
    ∷ NDef (codes "two") type_Int (NCon name_I_hash (given (NLit (pos 2)) none))
    ∷ NDef (codes "idf") (NTFun type_Int type_Int) (NLam (NBValue type_Int) (NLocal 0))
    ∷ NDef (codes "thk") type_Int (call def_idf def_two)
    ∷ NDef (codes "f") (NTFun type_Int type_Int) e
    ∷ [])

abbrev pub with_int_box_f_3 : NExpr → NModule
with_int_box_f_3 e = NModuleOf (codes "M") [] (codes "f" ∷ []) []
    (NData (codes "Int") [] ((NConOf (codes "I#") [] (NTInt ∷ [])) ∷ [])
    ∷ NData (codes "Box") (NParamOf KStar R ∷ []) ((NConOf (codes "MkBox") [] (NTVar 0 ∷ [])) ∷ [])
    ∷ NDef (codes "f") (NTFun type_Int (NTApp type_Box (NTApp type_Box type_Int))) e
    ∷ [])

abbrev pub with_int_u_idf_f : NExpr → NModule
with_int_u_idf_f e = NModuleOf (codes "M") [] (codes "f" ∷ []) []
    (NData (codes "Int") [] ((NConOf (codes "I#") [] (NTInt ∷ [])) ∷ [])
    ∷ NData (codes "U") (NParamOf KStar R ∷ []) ((NConOf (codes "MkU") [] (NTInt ∷ NTVar 0 ∷ [])) ∷ [])
    ∷ NDef (codes "idf") (NTFun type_Int type_Int) (NLam (NBValue type_Int) (NLocal 0))
    ∷ NDef (codes "f") (NTFun type_Int (NTApp type_U type_Int)) e
    ∷ [])

abbrev pub with_int_list_poly_tid_f : NExpr → NModule
with_int_list_poly_tid_f e = NModuleOf (codes "M") [] (codes "f" ∷ []) []
    (NData (codes "Int") [] ((NConOf (codes "I#") [] (NTInt ∷ [])) ∷ [])
    ∷ NData (codes "List") (NParamOf KStar R ∷ []) (NConOf (codes "Nil") [] [] ∷ (NConOf (codes "Cons") [] (NTVar 0 ∷ NTApp type_List (NTVar 0) ∷ [])) ∷ [])
    ∷ NData (codes "Poly") (NParamOf KStar R ∷ []) ((NConOf (codes "MkPoly") [] (NTForall KStar (NTFun (NTVar 0) (NTVar 1)) ∷ NTApp type_List (NTVar 0) ∷ NTFun (NTVar 0) (NTVar 0) ∷ [])) ∷ [])
    ∷ NDef (codes "tid") (NTForall KStar (NTFun (NTVar 0) (NTVar 0))) (NLam (NBType KStar) (NLam (NBValue (NTVar 0)) (NLocal 0)))
    ∷ NDef (codes "f") (NTFun (NTForall KStar (NTFun (NTVar 0) type_Int)) (NTApp type_Poly type_Int)) e
    ∷ [])

abbrev pub with_int_box_two_p2_f : NExpr → NModule
with_int_box_two_p2_f e = NModuleOf (codes "M") [] (codes "f" ∷ []) []
    (NData (codes "Int") [] ((NConOf (codes "I#") [] (NTInt ∷ [])) ∷ [])
    ∷ NData (codes "Box") (NParamOf KStar R ∷ []) ((NConOf (codes "MkBox") [] (NTVar 0 ∷ [])) ∷ [])
    ∷ NDef (codes "two") type_Int (NCon name_I_hash (given (NLit (pos 2)) none))
    ∷ NData (codes "P2") (NParamOf KStar R ∷ NParamOf KStar R ∷ []) ((NConOf (codes "MkP2") [] (NTVar 1 ∷ NTVar 0 ∷ [])) ∷ [])
    ∷ NDef (codes "f") (NTForall KStar (NTForall KStar (NTFun (NTVar 1) (NTFun (NTVar 0) type_Int)))) e
    ∷ [])

abbrev pub with_f_7 : NExpr → NModule
with_f_7 e = NModuleOf (codes "M") (codes "Base" ∷ []) (codes "f" ∷ []) []
    (NDef (codes "f") (NTFun type_Base_Int type_Base_Pair) e
    ∷ [])
