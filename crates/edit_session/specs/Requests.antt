-- Requests as the code has them.
use Rattle.edit_session.specs.ScriptLines.{Request, adds, removes, asks, other}
use Rattle.edit_session.specs.declared.requests.Request.{Request as Kept}
use Rattle.edit_session.specs.declared.requests.Request.TheVariants.{Add, Remove, Ask, Other}

-- a request of the code, as the definitions see it
abbrev pub plain_request : Kept → Request
plain_request (Add text) = adds text.now
plain_request (Remove k) = removes k
plain_request (Ask text) = asks text.now
plain_request Other = other
