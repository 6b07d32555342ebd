use Rattle.std.proofs.Common.{◌∙◌, ℕ, List, ◌++◌, sym, ap, subst}
use Rattle.std.specs.Io.KnownBytes.{Appends, Consumes}
use Rattle.http_server.specs.declared.state.Config.{Config}
use Rattle.http_server.specs.Connection.{history}
use Rattle.http_server.specs.History.{History, IsServed}
use Rattle.http_server.proofs.Theorems.{always_served}
use Rattle.site_pages.specs.Telling.{IsAnswered}
use Rattle.site_pages.proofs.ServedLaws.{from_none}
use Rattle.site_pages.proofs.serving.serve_pages.Goals as goal

-- A connection is served whatever was done with it, and this one had received and sent nothing before.
pub returns : goal.returns
returns g c =
    let connection = c.serve.new.connection in
    let began = c.new-connection.ensures.history in
    let limits = c.serve.ensures.config ∙ c.new-connection.ensures.config ∙ c.config.ensures in
    let read = c.serve.ensures.read in let written = c.serve.ensures.written in record {
      served = (
        history connection,
        subst (λ (config : Config). ∥ IsServed config (history connection) ∥₁) limits (always_served connection),
        subst (λ (bytes : List ℕ). Consumes (g.R.Read.remaining c.args.reader.now)
            (g.R.Read.remaining c.serve.new.reader) bytes)
            (sym (read.2 ∙ ap (λ (h : History). h.received ++ read.0) began)) read.1,
        subst (λ (bytes : List ℕ). Appends (g.W.Write.contents c.args.writer.now)
            (g.W.Write.contents c.serve.new.writer) bytes)
            (sym (written.2 ∙ ap (λ (h : History). h.sent ++ written.0) began)) written.1,
        from_none (λ old request response new.
            IsAnswered g.S.Source.says old.source request response new.source)
            c.args.pages.now c.serve.new.service _ _ (ap (λ (h : History). h.calls) began) c.serve.ensures.calls,
        c.serve.ensures.done,
      );
    }
