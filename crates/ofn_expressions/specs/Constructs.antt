-- How the constructs that are left out are spelled, and where each is met.
use Rattle.std.specs.Prelude.{ℕ, List, [], ◌∷◌, codes, if◌then◌else◌, Option, Some, None}
use Rattle.std.specs.Str.{bytes_eq}
use Rattle.ofn_expressions.specs.declared.construct.Construct.{Construct}
use Rattle.ofn_expressions.specs.declared.construct.Construct.TheVariants as C

-- the keyword or name by which a construct that is left out is told
unfoldable pub spelling : Construct → List ℕ
spelling C.Import = codes "Import"
spelling C.DisjointObjectProperties = codes "DisjointObjectProperties"
spelling C.InverseObjectProperties = codes "InverseObjectProperties"
spelling C.InverseFunctionalObjectProperty = codes "InverseFunctionalObjectProperty"
spelling C.ReflexiveObjectProperty = codes "ReflexiveObjectProperty"
spelling C.IrreflexiveObjectProperty = codes "IrreflexiveObjectProperty"
spelling C.SymmetricObjectProperty = codes "SymmetricObjectProperty"
spelling C.AsymmetricObjectProperty = codes "AsymmetricObjectProperty"
spelling C.SubDataPropertyOf = codes "SubDataPropertyOf"
spelling C.EquivalentDataProperties = codes "EquivalentDataProperties"
spelling C.DisjointDataProperties = codes "DisjointDataProperties"
spelling C.DataPropertyDomain = codes "DataPropertyDomain"
spelling C.DataPropertyRange = codes "DataPropertyRange"
spelling C.FunctionalDataProperty = codes "FunctionalDataProperty"
spelling C.DatatypeDefinition = codes "DatatypeDefinition"
spelling C.HasKey = codes "HasKey"
spelling C.NegativeObjectPropertyAssertion = codes "NegativeObjectPropertyAssertion"
spelling C.DataPropertyAssertion = codes "DataPropertyAssertion"
spelling C.NegativeDataPropertyAssertion = codes "NegativeDataPropertyAssertion"
spelling C.ObjectOneOf = codes "ObjectOneOf"
spelling C.ObjectHasValue = codes "ObjectHasValue"
spelling C.ObjectHasSelf = codes "ObjectHasSelf"
spelling C.DataSomeValuesFrom = codes "DataSomeValuesFrom"
spelling C.DataAllValuesFrom = codes "DataAllValuesFrom"
spelling C.DataHasValue = codes "DataHasValue"
spelling C.DataMinCardinality = codes "DataMinCardinality"
spelling C.DataMaxCardinality = codes "DataMaxCardinality"
spelling C.DataExactCardinality = codes "DataExactCardinality"
spelling C.ObjectInverseOf = codes "ObjectInverseOf"
spelling C.ObjectPropertyChain = codes "ObjectPropertyChain"
spelling C.TopObjectProperty = codes "owl:topObjectProperty"
spelling C.BottomObjectProperty = codes "owl:bottomObjectProperty"
spelling C.AnonymousIndividual = codes "_:"

-- the first of the constructs that is spelled so
abbrev pub spelled : List Construct → List ℕ → Option Construct
spelled [] w = None
spelled (c ∷ cs) w = if bytes_eq w (spelling c) then Some c else spelled cs w

-- where an axiom may stand
unfoldable pub excluded_axiom : List ℕ → Option Construct
excluded_axiom w =
    spelled (C.Import ∷ C.DisjointObjectProperties ∷ C.InverseObjectProperties ∷ C.InverseFunctionalObjectProperty
    ∷ C.ReflexiveObjectProperty
    ∷ C.IrreflexiveObjectProperty ∷ C.SymmetricObjectProperty ∷ C.AsymmetricObjectProperty ∷ C.SubDataPropertyOf
    ∷ C.EquivalentDataProperties
    ∷ C.DisjointDataProperties ∷ C.DataPropertyDomain ∷ C.DataPropertyRange ∷ C.FunctionalDataProperty
    ∷ C.DatatypeDefinition ∷ C.HasKey
    ∷ C.NegativeObjectPropertyAssertion ∷ C.DataPropertyAssertion ∷ C.NegativeDataPropertyAssertion ∷ []) w

-- where a class expression may stand
unfoldable pub excluded_class : List ℕ → Option Construct
excluded_class w =
    spelled
    (C.ObjectOneOf ∷ C.ObjectHasValue ∷ C.ObjectHasSelf ∷ C.DataSomeValuesFrom ∷ C.DataAllValuesFrom ∷ C.DataHasValue
    ∷ C.DataMinCardinality ∷ C.DataMaxCardinality ∷ C.DataExactCardinality ∷ []) w

-- where a role may stand, as a group
unfoldable pub excluded_role : List ℕ → Option Construct
excluded_role w = spelled (C.ObjectInverseOf ∷ C.ObjectPropertyChain ∷ []) w

-- where a role may stand, as an IRI
unfoldable pub excluded_role_name : List ℕ → Option Construct
excluded_role_name iri =
    if bytes_eq iri (codes "http://www.w3.org/2002/07/owl#topObjectProperty") then Some C.TopObjectProperty
    else if bytes_eq iri (codes "http://www.w3.org/2002/07/owl#bottomObjectProperty") then Some C.BottomObjectProperty
    else None
