use Rattle.std.proofs.Common.{subst}
use Rattle.octets.specs.Gives.{Gives}
use Rattle.operation.specs.Fault.{is_memory}
use Rattle.dictionary.specs.declared.uids.TheConstants.{CT_IMAGE_STORAGE}
use Rattle.site_script.specs.Sets.{made_of, image_made}
use Rattle.site_script.proofs.sets.image_content.Goals as goal

-- The elements are those of the line, and the class and the instance are its own.
pub returns : goal.returns
unfolding image_made
returns c =
    subst (λ es. Gives is_memory (λ x. x) c.content_from.result (made_of CT_IMAGE_STORAGE c.args.line.now.instance es))
    c.in_ok-elements.ensures
    (subst (λ k. Gives is_memory (λ x. x) c.content_from.result
    (made_of CT_IMAGE_STORAGE k c.in_ok-elements.elements.items)) c.as_slice.ensures c.content_from.ensures)
