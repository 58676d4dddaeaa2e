use Rattle.service.proofs.Once.{grants-once, whole-grants, closed-depots}
use Rattle.service.proofs.laws.grants_have_each_block_once.Goals as goal

pub returns-clause-grant : goal.returns-clause-grant
returns-clause-grant c = λ layout seat node f hand of there exact left own v on n. grants-once layout seat node f hand of there exact left own v on n

pub returns-clause-whole : goal.returns-clause-whole
returns-clause-whole c = λ layout seat f hands of left are v on n. whole-grants layout seat f hands of left are v on n

pub returns-clause-closed : goal.returns-clause-closed
returns-clause-closed c = λ layout seat f hands of closed are v on n. closed-depots layout seat f hands of closed are v on n
