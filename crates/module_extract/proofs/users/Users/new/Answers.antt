use Rattle.std.proofs.Common.{◌≡◌, ℕ, List, get_or, length, subst, ◌∙◌, arith}
use Rattle.std.specs.Prelude.{slice_get, Some}
use Rattle.std.proofs.lemmas.Option.{slice_get-get_or}
use Rattle.pinpointing_specs.specs.declared.module_laws.Name.{Name}
use Rattle.module_extract.specs.Users.{HasGained, IsIndex}
use Rattle.module_extract.proofs.Gained.{index_more}
use Rattle.module_extract.proofs.Placed.{axiom_placed}
use Rattle.module_extract.proofs.users.Users.new.Goals as goal

pub add_all-requires : goal.add_all-requires
add_all-requires c =
    let axioms = c.args.axioms.now in
    let place = c.loop-place.place in
    let a = get_or axioms place c.index-axioms-place.result in
    let there : slice_get axioms place ≡ Some a =
    slice_get-get_or axioms place c.index-axioms-place.result c.loop-place-test.true in
    axiom_placed axioms c.args.classes c.args.roles (length c.loop-place.users.classes.items)
    (length c.loop-place.users.roles.items) place a c.deref.result.now c.requires.listed there
    c.loop-place.invariant.classes c.loop-place.invariant.roles (c.deref.ensures.value ∙ c.in_ok-names.ensures)

pub loop-place-preserved : goal.loop-place-preserved
loop-place-preserved c =
    let axioms = c.args.axioms.now in
    let place = c.loop-place.place in
    let a = get_or axioms place c.index-axioms-place.result in
    let there : slice_get axioms place ≡ Some a =
    slice_get-get_or axioms place c.index-axioms-place.result c.loop-place-test.true in
    let gained = c.in_ok-add_all.ensures in
    record {
      classes = gained.same_classes ∙ c.loop-place.invariant.classes;
      roles = gained.same_roles ∙ c.loop-place.invariant.roles;
      index =
          index_more axioms place a c.loop-place.users c.add_all.new.self there c.loop-place.invariant.index
          (subst (λ (ns : List Name). HasGained c.loop-place.users c.add_all.new.self ns place)
          (c.deref.ensures.value ∙ c.in_ok-names.ensures) gained);
    }

pub returns : goal.returns
returns c =
    let all : c.loop-place.place ≡ length c.args.axioms.now =
    omega (arith, c.loop-place-test.false, c.loop-place.auto.place-end) in
    subst (λ (count : ℕ). IsIndex c.args.axioms.now count c.loop-place.users) all c.loop-place.invariant.index
