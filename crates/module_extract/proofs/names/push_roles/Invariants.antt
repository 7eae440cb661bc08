use Rattle.std.proofs.Common.{◌≡◌, ◌++◌, take}
use Rattle.std.specs.Prelude.{map}
use Rattle.pinpointing_specs.specs.declared.module_laws.Name.TheVariants as variants
use Rattle.module_extract.proofs.names.push_roles.Given as goal

abbrev pub invariant-loop-role : goal.invariant-loop-role
invariant-loop-role l = l.names.items ≡ l.initial.names.items ++ map variants.Role (take l.role-index l.roles)
