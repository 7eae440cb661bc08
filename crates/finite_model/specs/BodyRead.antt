-- What was read of a model's text, as the definitions see it.
use Rattle.finite_model.specs.ModelText.{Body, ClassLine, RoleLine}
use Rattle.finite_model.specs.declared.reading.BodyRead.{BodyRead}
use Rattle.finite_model.specs.declared.reading.ClassRead.{ClassRead}
use Rattle.finite_model.specs.declared.reading.RoleRead.{RoleRead}

-- what was read so far of the lines of a model, as the definitions see it
abbrev pub body_of : BodyRead → Body
body_of b = record { classes = b.classes.keys; roles = b.roles.keys; individuals = b.individuals.keys; model = b.model }

-- a line of a class that was read, as the definitions see it
abbrev pub class_of : ClassRead → ClassLine
class_of c = record { class = c.class; elements = c.elements.items }

-- a line of a role that was read, as the definitions see it
abbrev pub role_of : RoleRead → RoleLine
role_of r = record { role = r.role; pairs = r.pairs.items }
