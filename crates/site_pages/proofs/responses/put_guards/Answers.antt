use Rattle.std.proofs.Common.{◌≡◌, List, OnOk, subst}
use Rattle.http1.specs.Fields.{Header}
use Rattle.http_server.specs.Response.{fields_of}
use Rattle.site_pages.proofs.FieldLaws.{field, three}
use Rattle.site_pages.proofs.responses.put_guards.Goals as goal

-- The three stand behind those that were there.
pub returns-clause-fields : goal.returns-clause-fields
returns-clause-fields c =
    subst (λ (fields : List Header). OnOk c.add_header-3.result (fields_of c.add_header-3.new.self ≡ fields))
    (three (fields_of c.args.response.now) (fields_of c.add_header.new.self) (fields_of c.add_header-2.new.self)
    _ _ _ _ _ _ c.in_ok-add_header.ensures.headers c.in_ok-add_header-2.ensures.headers
    (field c.from_static.result _ c.from_static-policy.result _ c.from_static.ensures c.from_static-policy.ensures)
    (field c.from_static-2.result _ c.from_static-as_told.result _ c.from_static-2.ensures
    c.from_static-as_told.ensures)
    (field c.from_static-3.result _ c.from_static-close.result _ c.from_static-3.ensures
    c.from_static-close.ensures))
    c.add_header-3.ensures.headers
