-- A request of HTTP at the desk.
use Rattle.std.specs.Prelude.{ℕ, List, [], Option, Some, None, is_some, codes}
use Rattle.http.specs.declared.request.Request.{Request}
use Rattle.http.specs.Request.{head_of, body_of}
use Rattle.http_header.specs.FieldValue.{FieldValue}
use Rattle.http_header.specs.HeaderMap.{get}
use Rattle.http_uri.specs.Uri.{uri_path}
use Rattle.archive_page.specs.Hosts.{is_asked_here}
use Rattle.site_desk.specs.Posting.{Posting}

abbrev pub value_if_any : Option FieldValue → Option (List ℕ)
value_if_any None = None
value_if_any (Some value) = Some value.bytes

abbrev pub value_or_none : Option FieldValue → List ℕ
value_or_none None = []
value_or_none (Some value) = value.bytes

-- what the desk of the site that has these names reads of a request
abbrev pub posting_of : List (List ℕ) → Request (List ℕ) → Posting
posting_of names request = record {
  is_here = is_asked_here names (value_if_any (get (head_of request).headers (codes "host")));
  method = (head_of request).method;
  path = uri_path (head_of request).uri;
  media = value_or_none (get (head_of request).headers (codes "content-type"));
  has_origin = is_some (get (head_of request).headers (codes "origin"));
  body = body_of request;
}
