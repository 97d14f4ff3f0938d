use Rattle.std.proofs.Common.{◌≡◌, [], map, take}
use Rattle.http.specs.declared.version.TheConstants.Version.{HTTP_11}
use Rattle.gate_server.specs.Responses.{field_of}
use Rattle.http_header.specs.HeaderMap.{append_all}
use Rattle.gate_server.proofs.responses.head.Given as goal

abbrev pub invariant-loop-header : goal.invariant-loop-header
invariant-loop-header l = record {
  status : l.head.status ≡ l.reply.status;
  version : l.head.version ≡ HTTP_11;
  headers : l.head.headers ≡ append_all [] (map field_of (take l.header-index l.header-items));
  all : l.header-items ≡ l.reply.headers;
}
