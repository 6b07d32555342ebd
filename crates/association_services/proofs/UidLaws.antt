-- A sub-operation's command set, and the responses of a C-GET, can be written.
use Rattle.std.proofs.Common.{◌≡◌, ◌<◌, ◌-◌, ℕ, Bool, true, false, List, [], ◌∷◌, length, Option, Some, None, refl}
use Rattle.std.proofs.Common.{sym, subst, ◌∙◌, arith, slice_index_or, ◌&&◌}
use Rattle.std.specs.Prelude.{is_some, not, nat_le, ◌==◌}
use Rattle.std.proofs.lemmas.Bool.Decides.{nat_tests}
use Rattle.std.specs.List.{list_all, suffix_len}
use Rattle.std.proofs.lemmas.List.Sums.{suffix_len_is}
use Rattle.std.proofs.lemmas.List.Folds.{list_all_at}
use Rattle.std.proofs.lemmas.Bool.{and_from as both}
use Rattle.std.specs.Cmp.{first_so as left, second_so as right}
use Rattle.octets.specs.Padding.{is_padding}
use Rattle.octets.specs.Uid.{is_uid_byte, is_uid_text}
use Rattle.operation.specs.Contents.{IsContent}
use Rattle.operation.proofs.Bounds.{class_uid, instance_uid, class_short, instance_short}
use Rattle.dimse.specs.declared.message.Message.{Message}
use Rattle.dimse.specs.declared.status.Status.{Status}
use Rattle.dimse.specs.Command.{IsCommand, HasRoom, is_complete, announces}
use Rattle.dimse.specs.Response.{response_of}
use Rattle.dimse.specs.Sending.{IsWhole}
use Rattle.dimse.specs.Status.{status_code}
use Rattle.dimse.specs.Uid.{IsUid}
use Rattle.octets.specs.Graphic.{is_graphic}
use Rattle.dimse.proofs.SoundLaws.{answer_lawful}
use Rattle.archive_model.specs.declared.prepared.Prepared.{Prepared}
use Rattle.association_services.specs.declared.retrieval.Progress.{Progress}
use Rattle.association_services.specs.declared.way.Way.{Way}
use Rattle.association_services.specs.Response.{CanBeResponded}
use Rattle.association_services.specs.Retrieval.{counting, sub_operation}
use Rattle.association_services.proofs.ResponseLaws.{response_room}

-- ---- UIDs

byte_graphic : (b : ℕ) → is_uid_byte b ≡ true → is_graphic b ≡ true
byte_graphic b e = grind (arith, nat_tests)

byte_plain : (b : ℕ) → is_uid_byte b ≡ true → is_padding b ≡ false
byte_plain b e = grind (arith, nat_tests)

all_graphic : (u : List ℕ) → list_all is_uid_byte u ≡ true → list_all is_graphic u ≡ true
all_graphic [] e = refl
all_graphic (b ∷ u) e = both (is_graphic b) (list_all is_graphic u) (byte_graphic b (left (is_uid_byte b) _ e))
    (all_graphic u (right (is_uid_byte b) _ e))

uid_at_by : (u : List ℕ) (i : ℕ) (b : Bool) → is_uid_byte (slice_index_or u i 0) ≡ b → list_all is_uid_byte u ≡ true
    → i < length u → b ≡ true
uid_at_by u i true e all h = refl
uid_at_by u i false e all h = absurd (let none = list_all_at is_uid_byte u i 0 h e in cc)

bare_of : (u : List ℕ) → list_all is_uid_byte u ≡ true → suffix_len is_padding u ≡ 0
bare_of u all =
    let last : 0 < length u → is_padding (slice_index_or u (length u - 1) 0) ≡ false = λ some. byte_plain
    (slice_index_or u (length u - 1) 0)
    (uid_at_by u (length u - 1) (is_uid_byte (slice_index_or u (length u - 1) 0)) refl all (omega (arith, some))) in
    let e = suffix_len_is is_padding u (length u) 0 (omega arith) (λ k least less. absurd (omega (arith, least, less)))
    last in
    e ∙ omega arith

uid_by : (empty long all : Bool) → (not empty && long && all) ≡ true → all ≡ true
uid_by true long all e = absurd cc
uid_by false true all e = e
uid_by false false all e = absurd cc

uid_bytes : (u : List ℕ) → is_uid_text u ≡ true → list_all is_uid_byte u ≡ true
unfolding is_uid_text
uid_bytes u e = uid_by (length u == 0) (nat_le (length u) 64) (list_all is_uid_byte u) e

uid_is : (u : List ℕ) → is_uid_text u ≡ true → IsUid u
uid_is u e = record { graphic = all_graphic u (uid_bytes u e); bare = bare_of u (uid_bytes u e) }

-- ---- messages

-- what sends an instance
pub bringing_whole : (g : Progress) (way : Way) (p : Prepared) (m : Message) → IsContent p.content
    → m ≡ sub_operation g way p → IsWhole m
unfolding is_complete
bringing_whole g way p m is same = subst (λ (t : Message). IsWhole t) (sym same) (record {
  lawful = record {
    affected_class = uid_is p.content.class (class_uid p.content is);
    affected_instance = uid_is p.content.instance (instance_uid p.content is);
    complete = refl;
  };
  room = record {
    affected_class = omega (arith, class_short p.content is);
    affected_instance = omega (arith, instance_short p.content is);
  };
  announced = refl;
})

announced_by : (g : Progress) (status : Status) (remaining : Option ℕ) (body : Option (List ℕ))
    → announces (counting g status remaining body).command ≡ is_some body
unfolding response_of
announced_by g status remaining None = refl
announced_by g status remaining (Some text) = refl

counting_lawful : (g : Progress) (status : Status) (remaining : Option ℕ) (body : Option (List ℕ))
    → IsCommand (response_of g.awaited.command (status_code status)) → IsCommand (counting g status remaining
    body).command
unfolding is_complete
counting_lawful g status remaining body is =
    record { affected_class = is.affected_class; affected_instance = is.affected_instance; complete = is.complete }

counting_room : (g : Progress) (status : Status) (remaining : Option ℕ) (body : Option (List ℕ))
    → HasRoom (response_of g.awaited.command (status_code status)) → HasRoom (counting g status remaining body).command
counting_room g status remaining body room =
    record { affected_class = room.affected_class; affected_instance = room.affected_instance }

-- a response with counts
pub counting_whole : (g : Progress) (status : Status) (remaining : Option ℕ) (body : Option (List ℕ)) (m : Message)
    → CanBeResponded g.awaited → m ≡ counting g status remaining body → IsWhole m
counting_whole g status remaining body m can is = subst (λ (t : Message). IsWhole t) (sym is) (record {
  lawful = counting_lawful g status remaining body
      (answer_lawful g.awaited.command (status_code status) can.asked can.lawful);
  room = counting_room g status remaining body (response_room g.awaited.command (status_code status) can.room);
  announced = announced_by g status remaining body;
})
