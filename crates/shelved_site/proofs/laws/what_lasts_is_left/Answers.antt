use Rattle.shelved_site.proofs.laws.what_lasts_is_left.Goals as goal

-- The heads are those from before, and the data set lies where its own says.
pub returns : goal.returns
returns g c log op lasts h b may may' =
    (log.places, lasts.heads_are h may, (lasts.op, (lasts.at, lasts.first, λ some. (lasts.lasting some).0.left b may'), lasts.alike))
