use Rattle.std.proofs.Common.{refl, ◌∙◌}
use Rattle.std.proofs.lemmas.List.{with_items_is}
use Rattle.std.specs.Vec.{with_items}
use Rattle.module_extract.specs.declared.users.Users.{Users}
use Rattle.module_extract.proofs.Gained.{class_answered, role_answered}
use Rattle.module_extract.proofs.users.Users.add.Goals as goal

pub returns-in-Class : goal.returns-in-Class
returns-in-Class c =
    let new : Users =
    record { classes = with_items c.args.self.now.classes c.push_place.new.lists; roles = c.args.self.now.roles } in
    class_answered c.push_place.result c.args.self.now new c.args.name c.in-Class.class c.args.place
    c.deref_mut.result.now c.push_place.new.lists c.in-Class.is c.requires c.deref_mut.ensures.value
    (with_items_is c.args.self.now.classes c.push_place.new.lists (c.push_place.auto.lists ∙ c.deref_mut.ensures.len))
    refl
    c.push_place.ensures

pub returns-in-Role : goal.returns-in-Role
returns-in-Role c =
    let new : Users = record {
      classes = c.args.self.now.classes;
      roles = with_items c.args.self.now.roles c.push_place-in-Role.new.lists;
    } in
    role_answered c.push_place-in-Role.result c.args.self.now new c.args.name c.in-Role.role c.args.place
    c.deref_mut-in-Role.result.now c.push_place-in-Role.new.lists c.in-Role.is c.requires
    c.deref_mut-in-Role.ensures.value
    (with_items_is c.args.self.now.roles c.push_place-in-Role.new.lists
    (c.push_place-in-Role.auto.lists ∙ c.deref_mut-in-Role.ensures.len))
    refl c.push_place-in-Role.ensures
