use Rattle.std.proofs.Common.{◌≡◌, List, OnOk, subst}
use Rattle.http1.specs.Fields.{Header}
use Rattle.http_server.specs.Response.{fields_of}
use Rattle.site_desk.proofs.FieldLaws.{field, four}
use Rattle.site_desk.proofs.responses.put_fields.Goals as goal

-- The four stand behind those that were there.
pub returns-clause-fields : goal.returns-clause-fields
returns-clause-fields c =
    subst (λ (fields : List Header). OnOk c.add_header-4.result (fields_of c.add_header-4.new.self ≡ fields))
    (four (fields_of c.args.response.now) (fields_of c.add_header.new.self) (fields_of c.add_header-2.new.self)
    (fields_of c.add_header-3.new.self) _ _ _ _ _ _ _ _ c.in_ok-add_header.ensures.headers
    c.in_ok-add_header-2.ensures.headers c.in_ok-add_header-3.ensures.headers
    (field c.from_static.result _ c.from_static-plain.result _ c.from_static.ensures c.from_static-plain.ensures)
    (field c.from_static-2.result _ c.from_static-no_store.result _ c.from_static-2.ensures
    c.from_static-no_store.ensures)
    (field c.from_static-3.result _ c.from_static-methods.result _ c.from_static-3.ensures
    c.from_static-methods.ensures)
    (field c.from_static-4.result _ c.from_static-close.result _ c.from_static-4.ensures
    c.from_static-close.ensures))
    c.add_header-4.ensures.headers
