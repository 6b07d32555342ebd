use Rattle.std.proofs.Common.{◌≡◌, ◌∷◌, [], List, sym, subst}
use Rattle.data_set.specs.Tree.{Tree, leaf}
use Rattle.data_set.specs.Written.{IsSet}
use Rattle.dictionary.specs.declared.elements.TheConstants.{FAILED_SOP_INSTANCE_UID_LIST}
use Rattle.association_services.specs.Get.{fitting, room_in, vr_in, uid_list}
use Rattle.association_services.proofs.GetLaws.{failed_is_set}
use Rattle.association_services.proofs.counts.failed_text.Goals as goal

-- The element is one that the grammar has, alone.
pub of-set-requires : goal.of-set-requires
of-set-requires c =
    let is : c.push.new.self.items ≡ leaf FAILED_SOP_INSTANCE_UID_LIST (vr_in c.args.syntax) (uid_list (fitting (room_in
    c.args.syntax) c.args.uids.now)) ∷ [] = cc (
      c.in_ok-push.ensures.items,
      c.new-elements.ensures.items,
      c.leaf-element.ensures,
      c.vr.ensures,
      c.in_ok-value.ensures,
    ) in
    subst (λ (t : List Tree). IsSet c.args.syntax t) (sym is) (failed_is_set c.args.syntax c.args.uids.now)
