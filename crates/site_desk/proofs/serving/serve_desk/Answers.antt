use Rattle.std.proofs.Common.{◌∙◌, ℕ, List, ◌++◌, sym, ap, subst}
use Rattle.std.specs.Io.KnownBytes.{Appends, Consumes}
use Rattle.http_server.specs.declared.state.Config.{Config}
use Rattle.http_server.specs.Connection.{history}
use Rattle.http_server.specs.History.{History, IsServed}
use Rattle.http_server.proofs.Theorems.{always_served}
use Rattle.site_desk.specs.Desks.{AnswersAt}
use Rattle.site_desk.proofs.DeskLaws.{chain_goes, from_none}
use Rattle.site_desk.proofs.serving.serve_desk.Goals as goal

-- A connection is served whatever was done with it, this one had received and sent nothing before, and each answer is a
-- step of the desk.
pub returns : goal.returns
returns g c =
    let opening = g.H.HubName.opening in
    let connection = c.serve.new.connection in
    let began = c.new-connection.ensures.history in
    let limits = c.serve.ensures.config ∙ c.new-connection.ensures.config ∙ c.config.ensures in
    let read = c.serve.ensures.read in let written = c.serve.ensures.written in
    let calls = from_none (λ old request response new. AnswersAt opening old request response new)
    c.args.desk.now c.serve.new.service _ _ (ap (λ (h : History). h.calls) began) c.serve.ensures.calls in record {
      goes_on = chain_goes opening calls.0 c.args.desk.now c.serve.new.service calls.2;
      served = (
        history connection,
        subst (λ (config : Config). ∥ IsServed config (history connection) ∥₁) limits (always_served connection),
        subst (λ (bytes : List ℕ). Consumes (g.I.Read.remaining c.args.reader.now)
            (g.I.Read.remaining c.serve.new.reader) bytes)
            (sym (read.2 ∙ ap (λ (h : History). h.received ++ read.0) began)) read.1,
        subst (λ (bytes : List ℕ). Appends (g.O.Write.contents c.args.writer.now)
            (g.O.Write.contents c.serve.new.writer) bytes)
            (sym (written.2 ∙ ap (λ (h : History). h.sent ++ written.0) began)) written.1,
        calls,
        c.serve.ensures.done,
      );
    }
