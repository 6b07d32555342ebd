use Rattle.std.proofs.Common.{◌≡◌, ◌==◌, ℕ, List, inl, inr, subst, rules}
use Rattle.std.specs.List.{before_first}
use Rattle.std.specs.Net.Grammar.{IsIpv4Text}
use Rattle.command_words.specs.Networks.{HasSlash}
use Rattle.command_words.proofs.networks.read_network.Goals as goal

-- What has no slash is no address alone, and is not parted at one.
pub returns-in_default-parse-clause-none : goal.returns-in_default-parse-clause-none
returns-in_default-parse-clause-none c = λ none network is.
    let plain : HasSlash c.args.text.now → ⊥ = search rules in
    elim is as (λ _. ⊥) [
      | inl alone ↦ c.in_default-parse.ensures.value network.address alone.1
      | inr slashed ↦ plain slashed.0
    ]

-- What has one is none alone, and what stands before it is no address.
pub returns-in_default-parse-2-clause-none : goal.returns-in_default-parse-2-clause-none
returns-in_default-parse-2-clause-none c = λ none network is.
    let has : HasSlash c.args.text.now = search rules in
    let front : before_first (λ b. b == 47) c.args.text.now ≡ c.in-Some.address.now = search rules in
    elim is as (λ _. ⊥) [
      | inl alone ↦ alone.0 has
      | inr slashed ↦ c.in_default-parse-2.ensures.value network.address
          (subst (λ (text : List ℕ). IsIpv4Text text network.address) front slashed.1)
    ]
