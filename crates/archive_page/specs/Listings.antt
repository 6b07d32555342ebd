-- A page of what a search for studies finds.
use Rattle.std.specs.Prelude.{ℕ, ◌+◌, ◌-◌, List, [], ◌∷◌, ◌++◌, nat_lt, cond, codes}
use Rattle.std.specs.Fmt.{decimal}
use Rattle.json.specs.Token.{Token, begin_object, end_object, key, number, null}
use Rattle.archive_page.specs.Escaping.{escaped}
use Rattle.archive_page.specs.Tables.{linked_table}
use Rattle.archive_page.specs.Values.{string_of, columns_member, rows_member}
use Rattle.archive_page.specs.declared.form.TheConstants.{FORM, NAME, PATIENT, DATE, ACCESSION, MODALITY, BUTTON}
use Rattle.archive_page.specs.declared.frame.TheConstants.{LINK, END}
use Rattle.archive_page.specs.declared.listing.Listing.{Listing}
use Rattle.archive_page.specs.declared.search.Search.{Search}
use Rattle.archive_page.specs.declared.subject.Form.TheVariants.{Html, Json}
use Rattle.archive_page.specs.declared.subject.Subject.TheVariants.{Studies}
use Rattle.archive_page.specs.Links.{link_to, pages_of, has_next}
use Rattle.archive_page.specs.Pages.{above_table}

-- what stands above the columns
abbrev pub listing_heading : List (List ℕ)
listing_heading =
    codes "STUDY" ∷ codes "PATIENT" ∷ codes "NAME" ∷ codes "DATE" ∷ codes "ACCESSION" ∷ codes "MODALITIES"
    ∷ codes "SERIES" ∷ codes "INSTANCES" ∷ codes "REJECTED" ∷ []

-- ---- in HTML

-- a field of the form, which is opened so, with what was searched for (HTML, 4.10.5)
unfoldable pub search_input : List ℕ → List ℕ → List ℕ
search_input opening value = opening ++ escaped value ++ codes "\"></label>\n"

-- the fields of a patient
unfoldable pub patient_inputs : Search → List ℕ
patient_inputs search = search_input NAME search.name ++ search_input PATIENT search.patient

-- those of a study
unfoldable pub study_inputs : Search → List ℕ
study_inputs search =
    search_input DATE search.date ++ search_input ACCESSION search.accession ++ search_input MODALITY search.modality

-- the form that asks for a search (HTML, 4.10.3)
unfoldable pub search_form : Search → List ℕ
search_form search = FORM ++ patient_inputs search ++ study_inputs search ++ BUTTON

-- a link to a page of what a search finds
unfoldable pub turning_link : Search → ℕ → List ℕ → List ℕ
turning_link search page words =
    codes "<a href=\"" ++ escaped (link_to Html search page) ++ codes "\">" ++ words ++ codes "</a>\n"

unfoldable pub previous_link : Search → List ℕ
previous_link search =
    cond (nat_lt search.page 2) [] (turning_link search (search.page - 1) (codes "Previous"))

unfoldable pub next_link : Search → ℕ → List ℕ
next_link search total =
    cond (has_next search.page total) (turning_link search (search.page + 1) (codes "Next")) []

-- the links to the pages beside it
unfoldable pub turning_links : Search → ℕ → List ℕ
turning_links search total =
    codes "<p>" ++ previous_link search ++ next_link search total ++ codes "</p>\n"

-- which page it is, of how many
unfoldable pub page_place : ℕ → ℕ → List ℕ
page_place page total = codes "<p>Page " ++ decimal page ++ codes " of " ++ decimal (pages_of total)

-- which page it is, of how many, how many studies there are, and the links to the pages beside it
unfoldable pub turning : Search → ℕ → List ℕ
turning search total =
    page_place search.page total ++ codes ", studies: " ++ decimal total ++ codes "</p>\n"
    ++ turning_links search total

-- what stands below: a link to the same page in JSON
unfoldable pub below_listing : Search → List ℕ
below_listing search = LINK ++ escaped (link_to Json search search.page) ++ END

-- a page of what a search finds
unfoldable pub listing_page : Listing → List ℕ
listing_page listing =
    above_table Studies ++ search_form listing.search ++ linked_table listing_heading listing.rows
    ++ turning listing.search listing.total ++ below_listing listing.search

-- ---- in JSON

-- a number, as a member of an object
unfoldable pub number_member : List ℕ → ℕ → List Token
number_member name value = key name ∷ number (decimal value) ∷ []

-- the link to the page before this one, if there is one
unfoldable pub previous_member : Search → List Token
previous_member search =
    key (codes "previous")
    ∷ cond (nat_lt search.page 2) null (string_of (link_to Json search (search.page - 1))) ∷ []

-- the link to the page behind this one, if there is one
unfoldable pub next_member : Search → ℕ → List Token
next_member search total =
    key (codes "next")
    ∷ cond (has_next search.page total) (string_of (link_to Json search (search.page + 1))) null ∷ []

-- which page it is, how many there are, and how many studies
unfoldable pub number_members : Listing → List Token
number_members listing =
    number_member (codes "page") listing.search.page ++ number_member (codes "pages") (pages_of listing.total)
    ++ number_member (codes "studies") listing.total

-- a page of what a search finds
unfoldable pub listing_object : Listing → List Token
listing_object listing =
    begin_object
    ∷ (columns_member listing_heading ++ rows_member listing.rows ++ number_members listing
    ++ previous_member listing.search ++ next_member listing.search listing.total ++ end_object ∷ [])
