use Rattle.std.proofs.Common.{◌∙◌, ℕ, List, Option, map, ap}
use Rattle.std.specs.Prelude.{is_some}
use Rattle.http.specs.Request.{head_of}
use Rattle.http_header.specs.FieldValue.{FieldValue}
use Rattle.http_header.specs.HeaderMap.{Entries, get}
use Rattle.http_uri.specs.Uri.{uri_path}
use Rattle.archive_page.specs.Hosts.{is_asked_here}
use Rattle.site_desk.specs.Requests.{value_if_any, value_or_none}
use Rattle.site_desk.proofs.RequestLaws.{posting_is, some_copied}
use Rattle.site_desk.proofs.requests.posted.Goals as goal

-- Each part is read of its place.
pub returns : goal.returns
returns c =
    let headers = (head_of c.args.request.now).headers in
    let names = map (λ name. name.now) c.args.names.now in
    posting_is _ _
    (c.is_asked_here.ensures ∙ ap (λ (host : Option (List ℕ)). is_asked_here names host) (c.bytes_in.ensures
    ∙ ap value_if_any (c.get-host.ensures.value
    ∙ (ap (λ (m : Entries FieldValue). get m c.from_static.result) c.headers-headers.ensures
    ∙ ap (λ (k : List ℕ). get headers k) c.from_static.ensures))))
    (c.as_bytes.ensures.value ∙ (c.as_str.ensures.value ∙ c.method.ensures))
    (c.as_bytes-2.ensures.value ∙ (c.path.ensures.value ∙ ap uri_path c.uri.ensures))
    (c.bytes_of.ensures ∙ ap value_or_none (c.get.ensures.value
    ∙ (ap (λ (m : Entries FieldValue). get m c.from_static-3.result) c.headers-headers.ensures
    ∙ ap (λ (k : List ℕ). get headers k) c.from_static-3.ensures)))
    (c.is_some.ensures ∙ some_copied c.get-origin.result ∙ ap is_some (c.get-origin.ensures.value
    ∙ (ap (λ (m : Entries FieldValue). get m c.from_static-2.result) c.headers-headers.ensures
    ∙ ap (λ (k : List ℕ). get headers k) c.from_static-2.ensures)))
    (c.as_slice.ensures ∙ c.body.ensures)
