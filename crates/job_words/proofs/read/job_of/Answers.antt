use Rattle.std.proofs.Common.{arith}
use Rattle.job_words.specs.declared.option.Setting.TheVariants.{Workers, Colours, Seed, Orders}
use Rattle.job_words.specs.Words.{texts}
use Rattle.job_words.proofs.Held.{read-in-range, read-job}
use Rattle.job_words.proofs.read.job_of.Goals as goal

pub overflow_cast-limits : goal.overflow_cast-limits
overflow_cast-limits c =
    let few-workers = read-in-range c.args.command (texts c.args.words.now) c.args.numbers
    c.requires Workers c.by-3.result c.by-3.ensures in
    omega arith

pub overflow_cast-result : goal.overflow_cast-result
overflow_cast-result c =
    let few-colours = read-in-range c.args.command (texts c.args.words.now) c.args.numbers
    c.requires Colours c.by-4.result c.by-4.ensures in
    omega arith

pub overflow_cast-result-2 : goal.overflow_cast-result-2
overflow_cast-result-2 c =
    let small-seed = read-in-range c.args.command (texts c.args.words.now) c.args.numbers
    c.requires Seed c.by-5.result c.by-5.ensures in
    omega arith

pub overflow_cast-result-3 : goal.overflow_cast-result-3
overflow_cast-result-3 c =
    let few-orders = read-in-range c.args.command (texts c.args.words.now) c.args.numbers
    c.requires Orders c.by-6.result c.by-6.ensures in
    omega arith

pub returns : goal.returns
returns c =
    read-job (texts c.args.words.now) _ c.args.numbers c.requires c.by-3.ensures c.by.ensures
    c.by-4.ensures c.by-2.ensures c.by-5.ensures c.by-6.ensures
